use Rattle.std.proofs.Common.{◌≡◌, ◌++◌, drop, replicate, None}
use Rattle.vr_window.proofs.places.Places.clear.Given as goal

abbrev pub invariant-loop-i : goal.invariant-loop-i
invariant-loop-i g l = l.self ≡ replicate l.i None ++ drop l.i l.initial.self
