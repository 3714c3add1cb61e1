use Rattle.vr_replica.proofs.Bounding as bounding
use Rattle.vr_replica.proofs.bounds.steps_send_few.Goals as goal

pub returns : goal.returns
returns g _ = bounding.steps_send_few
