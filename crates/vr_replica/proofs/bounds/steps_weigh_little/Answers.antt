use Rattle.vr_replica.proofs.WeighedRules as bounding
use Rattle.vr_replica.proofs.bounds.steps_weigh_little.Goals as goal

pub returns : goal.returns
returns g _ = bounding.steps_weigh_little
