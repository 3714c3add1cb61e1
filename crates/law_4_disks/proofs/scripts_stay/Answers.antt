use Rattle.law_4_disks.proofs.Scripts.{scripts_stay}
use Rattle.law_4_disks.proofs.scripts_stay.Goals as goal

pub returns : goal.returns
returns c = scripts_stay
