use Rattle.std.proofs.Common.{◌≡◌}
use Rattle.vr_volatile.specs.Jumps.{jumped_to}
use Rattle.vr_volatile.proofs.replica.Replica.jump_parts.Given as goal

abbrev pub invariant-loop-i : goal.invariant-loop-i
invariant-loop-i l = l.self ≡ jumped_to l.sync l.i l.initial.self
