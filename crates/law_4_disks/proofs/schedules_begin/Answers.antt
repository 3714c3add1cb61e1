use Rattle.law_4_disks.proofs.Fresh.{schedules_begin}
use Rattle.law_4_disks.proofs.schedules_begin.Goals as goal

pub returns : goal.returns
returns _ = schedules_begin
