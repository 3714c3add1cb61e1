use Rattle.std.proofs.Common.{refl, sym, subst}
use Rattle.vr_embed.specs.Story.{IsTold}
use Rattle.vr_embed.specs.declared.clock.Clock.{Clock}
use Rattle.vr_embed.proofs.Stories.{due_last, due_second, due_third, quiet_first, ticks_from, whole}
use Rattle.vr_embed.proofs.story.tell.Goals as goal

abbrev begun : Clock
begun = record { time = 0; ticked = 0 }

pub returns : goal.returns
returns c =
    let one = c.in_ok-wait.ensures.clock in
    let two = c.in_ok-wait-2.ensures.clock in
    let three = c.in_ok-wait-3.ensures.clock in
    let tick = ticks_from c.put_color.new.group c.wait.new.group c.wait-2.new.group (c.in_ok-wait.ensures.quiet (quiet_first begun refl)) (c.in_ok-wait-2.ensures.due (due_second begun c.wait.new.clock refl one)) in
    let second = c.in_ok-wait-3.ensures.due (due_third begun c.wait.new.clock c.wait-2.new.clock refl one two) in
    let last = c.in_ok-wait-4.ensures.due (due_last begun c.wait.new.clock c.wait-2.new.clock c.wait-3.new.clock refl one two three) in
    let told = whole c.in_ok-group.group c.open_session.new.group c.put_color.new.group c.wait-2.new.group c.put_shape.new.group c.find.new.group c.wait-3.new.group c.get_shape.new.group c.wait-4.new.group
    c.in_ok-group.ensures.world c.in_ok-group.ensures.next c.in_ok-group.ensures.text c.in_ok-open_session.ensures c.in_ok-put_color.ensures tick c.in_ok-put_shape.ensures c.in_ok-find.ensures second c.in_ok-get_shape.ensures last in
    record { headline = subst IsTold (sym c.into_text.ensures) told }
