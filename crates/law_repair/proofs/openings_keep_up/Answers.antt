use Rattle.law_repair.proofs.KeepingUp.{openings_keep_up}
use Rattle.law_repair.proofs.openings_keep_up.Goals as goal

pub returns : goal.returns
returns g c = openings_keep_up
