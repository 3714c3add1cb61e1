use Rattle.std.proofs.Common.{◌≡◌}
use Rattle.vr_normal.specs.Words.{any_of}
use Rattle.vr_normal.proofs.requesting.any_of.Given as goal

abbrev pub invariant-loop-i : goal.invariant-loop-i
invariant-loop-i l = any_of l.client l.parts l.from l.end ≡ any_of l.client l.parts l.i l.end
