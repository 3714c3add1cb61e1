use Rattle.std.proofs.Common.{◌≡◌}
use Rattle.vr_volatile.specs.Takes.{taken_to}
use Rattle.vr_volatile.proofs.replica.Replica.take_parts.Given as goal

abbrev pub invariant-loop-i : goal.invariant-loop-i
invariant-loop-i l = l.self ≡ taken_to l.log l.i l.initial.self
