use Rattle.law_repair.proofs.KeepingUp.{steps_keep_up}
use Rattle.law_repair.proofs.steps_keep_up.Goals as goal

pub returns : goal.returns
returns g c = steps_keep_up
