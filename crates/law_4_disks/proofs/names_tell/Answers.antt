use Rattle.law_4_disks.proofs.Telling.{names_tell}
use Rattle.law_4_disks.proofs.names_tell.Goals as goal

pub returns : goal.returns
returns c = names_tell
