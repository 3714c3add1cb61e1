use Rattle.vr_volatile.proofs.Taken.{window_begun, window_taken}
use Rattle.vr_volatile.proofs.replica.Replica.take_over.Goals as goal

pub forget-requires : goal.forget-requires
forget-requires c = window_begun _ _ _ _ c.begin_log.ensures (window_taken _ _ _ c.take_parts.ensures c.requires.window)
