use Rattle.std.proofs.Common.{◌≡◌, ◌++◌, map, take, drop, option_map}
use Rattle.vr_io_policy.specs.Guests.{yields}
use Rattle.vr_io_policy.proofs.places.all_yield.Given as goal

abbrev pub invariant-loop-at : goal.invariant-loop-at
invariant-loop-at l = l.guests ≡ map (option_map (yields l.member)) (take l.at l.initial.guests) ++ drop l.at l.initial.guests
