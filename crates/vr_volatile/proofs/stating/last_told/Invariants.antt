use Rattle.std.proofs.Common.{◌≡◌, ◌≤◌, length, take}
use Rattle.vr_volatile.specs.States.{last_told}
use Rattle.vr_volatile.proofs.stating.last_told.Given as goal

abbrev pub invariant-loop-end : goal.invariant-loop-end
invariant-loop-end l = record {
  within : l.end ≤ length l.parts;
  same : last_told (take l.end l.parts) ≡ last_told l.parts;
}

abbrev pub decreases-loop-end : goal.decreases-loop-end
decreases-loop-end l = l.end
