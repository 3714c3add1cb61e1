use Rattle.std.proofs.Common.{◌≡◌, replicate, None}
use Rattle.vr_window.proofs.places.Places.new.Given as goal

abbrev pub invariant-loop-i : goal.invariant-loop-i
invariant-loop-i g l = l.items.items ≡ replicate l.i None
