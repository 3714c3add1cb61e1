use Rattle.vr_io_policy.specs.Senders.{IsOldest}
use Rattle.vr_io_policy.proofs.ports.oldest.Given as goal

abbrev pub invariant-loop-at : goal.invariant-loop-at
invariant-loop-at g l = IsOldest l.others l.at l.oldest
