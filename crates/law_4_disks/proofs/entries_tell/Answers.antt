use Rattle.law_4_disks.proofs.Telling.{entries_tell}
use Rattle.law_4_disks.proofs.entries_tell.Goals as goal

pub returns : goal.returns
returns c = entries_tell
