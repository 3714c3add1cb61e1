use Rattle.std.proofs.Common.{◌∙◌, ◌≡◌, arith, refl, sym, length, max, rules, ◌<◌}
use Rattle.vr_group.proofs.Tops.{member_at, top_more, top_none}
use Rattle.vr_group.proofs.views.top_view.Goals as goal

-- src/views.rt:27:5
pub loop-at-init : goal.loop-at-init
loop-at-init c = record { same = refl; top = sym (top_none c.args.hosts.now.items) }

-- src/views.rt:27:5
pub loop-at-preserved : goal.loop-at-preserved
loop-at-preserved c =
    let same = c.loop-at.invariant.same in
    let top = c.loop-at.invariant.top in
    let inside : c.loop-at.at < length c.args.hosts.now.items = omega (arith, c.loop-at-test.true, c.len-at-end.ensures) in
    let m = member_at c.args.hosts.now.items c.loop-at.at inside in
    let view = c.view_at.ensures.view m.0 (rw same m.1) in
    let more = top_more c.args.hosts.now.items c.loop-at.at m.0 inside m.1 in
    let most : c.max-top.result ≡ max c.loop-at.top c.view_at.result = search rules in
    record { same = c.view_at.ensures.same ∙ same; top = most ∙ (rw (top, view) (sym more)) }
