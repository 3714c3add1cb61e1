use Rattle.std.proofs.Common.{◌≡◌}
use Rattle.vr_volatile.specs.States.{stated_to}
use Rattle.vr_volatile.proofs.replica.Replica.stated.Given as goal

abbrev pub invariant-loop-i : goal.invariant-loop-i
invariant-loop-i l = l.all ≡ stated_to l.self l.i
