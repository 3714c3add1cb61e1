use Rattle.vr_replica.proofs.Bounding as bounding
use Rattle.vr_replica.proofs.bounds.done_is_few.Goals as goal

pub returns : goal.returns
returns _ = bounding.done_is_few
