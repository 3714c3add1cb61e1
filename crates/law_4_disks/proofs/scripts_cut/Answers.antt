use Rattle.law_4_disks.proofs.Scripts.{scripts_cut}
use Rattle.law_4_disks.proofs.scripts_cut.Goals as goal

pub returns : goal.returns
returns c = scripts_cut
