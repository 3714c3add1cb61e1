use Rattle.rows_computed.proofs.Effect.{pending_takes_effect}
use Rattle.rows_computed.proofs.pending.a_pending_request_takes_effect.Goals as goal

pub returns : goal.returns
returns c = pending_takes_effect
