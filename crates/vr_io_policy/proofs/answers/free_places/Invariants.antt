use Rattle.std.proofs.Common.{◌≡◌, None, replicate}
use Rattle.vr_io_policy.proofs.answers.free_places.Given as goal

abbrev pub invariant-loop : goal.invariant-loop
invariant-loop g l = l.places.items ≡ replicate l.counter None
