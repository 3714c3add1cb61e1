use Rattle.vr_io_policy.specs.Places.{IsFirst}
use Rattle.vr_io_policy.proofs.places.find_first.Given as goal

abbrev pub invariant-loop-at : goal.invariant-loop-at
invariant-loop-at l = IsFirst l.newcomer l.guests l.at l.found
