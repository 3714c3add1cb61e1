use Rattle.law_repair.proofs.Completing.{lying_complete, sectors_complete}
use Rattle.law_repair.proofs.copies_complete.Goals as goal

pub returns-clause-sectors : goal.returns-clause-sectors
returns-clause-sectors _ = sectors_complete

pub returns-clause-lying : goal.returns-clause-lying
returns-clause-lying _ = lying_complete
