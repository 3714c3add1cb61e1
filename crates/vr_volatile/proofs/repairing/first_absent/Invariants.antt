use Rattle.std.proofs.Common.{◌≡◌, drop}
use Rattle.vr_volatile.specs.Absent.{first_absent}
use Rattle.vr_volatile.proofs.repairing.first_absent.Given as goal

abbrev pub invariant-loop-i : goal.invariant-loop-i
invariant-loop-i l = first_absent (drop l.from l.parts) ≡ first_absent (drop l.i l.parts)
