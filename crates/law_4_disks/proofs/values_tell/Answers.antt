use Rattle.law_4_disks.proofs.Telling.{values_tell}
use Rattle.law_4_disks.proofs.values_tell.Goals as goal

pub returns : goal.returns
returns c = values_tell
