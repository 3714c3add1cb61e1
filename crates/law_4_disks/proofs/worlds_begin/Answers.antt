use Rattle.law_4_disks.proofs.Fresh.{worlds_begin}
use Rattle.law_4_disks.proofs.worlds_begin.Goals as goal

pub returns : goal.returns
returns _ = worlds_begin
