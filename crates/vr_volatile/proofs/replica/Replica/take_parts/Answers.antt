use Rattle.std.proofs.Common.{arith, subst, ◌<◌}
use Rattle.vr_volatile.proofs.Taken.{taken_room}
use Rattle.vr_volatile.proofs.replica.Replica.take_parts.Goals as goal

pub take_part-requires-clause-fits : goal.take_part-requires-clause-fits
take_part-requires-clause-fits c = taken_room _ _ _ _ (subst (λ n. c.loop-i.i < n) c.part_count-i-end.ensures (omega (arith, c.loop-i-test.true))) c.loop-i.invariant c.requires
