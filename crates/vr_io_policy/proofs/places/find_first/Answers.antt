use Rattle.std.proofs.Common.{◌≡◌}
use Rattle.vr_io_policy.proofs.First.{first_more, claim_there}
use Rattle.vr_io_policy.proofs.places.find_first.Goals as goal

pub loop-at-preserved : goal.loop-at-preserved
loop-at-preserved c = rw (c.first_of-found.ensures, c.claim_of.ensures, ← claim_there c.args.newcomer c.args.guests.now c.loop-at.at _ c.loop-at-test.true) (first_more _ _ _ _ c.loop-at.invariant)
