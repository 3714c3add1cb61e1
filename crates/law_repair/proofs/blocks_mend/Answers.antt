use Rattle.law_repair.proofs.Mending.{lying_mends, sectors_mend}
use Rattle.law_repair.proofs.blocks_mend.Goals as goal

pub returns-clause-sectors : goal.returns-clause-sectors
returns-clause-sectors _ = sectors_mend

pub returns-clause-lying : goal.returns-clause-lying
returns-clause-lying _ = lying_mends
