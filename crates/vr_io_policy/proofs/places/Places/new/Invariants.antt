use Rattle.std.proofs.Common.{◌≡◌, None, replicate}
use Rattle.vr_io_policy.proofs.places.Places.new.Given as goal

abbrev pub invariant-loop : goal.invariant-loop
invariant-loop l = l.guests.items ≡ replicate l.counter None
