use Rattle.law_4_disks.proofs.Playing.{stopped}
use Rattle.law_4_disks.proofs.effects_cut.Goals as goal

pub returns : goal.returns
returns c = stopped
