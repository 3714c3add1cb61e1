use Rattle.std.proofs.Common.{arith, subst, ◌<◌}
use Rattle.vr_volatile.proofs.Jumps.{jumped_room}
use Rattle.vr_volatile.proofs.replica.Replica.jump_parts.Goals as goal

pub jump_part-requires-clause-fits : goal.jump_part-requires-clause-fits
jump_part-requires-clause-fits c = jumped_room _ _ _ _ (subst (λ n. c.loop-i.i < n) c.part_count-i-end.ensures (omega (arith, c.loop-i-test.true))) c.loop-i.invariant c.requires
