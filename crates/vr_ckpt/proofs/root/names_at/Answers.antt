use Rattle.std.proofs.Common.{◌∙◌, sym}
use Rattle.vr_ckpt.proofs.Roots.{names_end, names_go, names_start, names_stop}
use Rattle.vr_ckpt.proofs.root.names_at.Goals as goal

pub returns-then-not-is_place : goal.returns-then-not-is_place
returns-then-not-is_place c =
    names_stop c.args.places c.args.bytes.now c.args.first c.args.count c.loop-k.k c.name_at-name.result c.loop-k.names _ c.loop-k-test.true c.name_at-name.ensures (rw c.of-low.ensures.value at (sym c.is_place.ensures ∙ c.if-not-is_place.true)) c.loop-k.invariant

pub loop-k-init : goal.loop-k-init
loop-k-init c = rw c.new-names.ensures (names_start c.args.places c.args.bytes.now c.args.first c.args.count)

pub loop-k-preserved : goal.loop-k-preserved
loop-k-preserved c =
    names_go c.args.places c.args.bytes.now c.args.first c.args.count c.loop-k.k c.name_at-name.result c.loop-k.names c.push.new.self _ c.loop-k-test.true c.name_at-name.ensures (rw c.of-low.ensures.value at (sym c.is_place.ensures ∙ c.if-not-is_place.false)) c.in_ok-push.ensures.ok c.loop-k.invariant

pub returns : goal.returns
returns c = names_end c.args.places c.args.bytes.now c.args.first c.args.count c.loop-k.k c.loop-k.names _ c.loop-k-test.false c.loop-k.invariant
