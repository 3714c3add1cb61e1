use Rattle.law_repair.proofs.Finding.{lying_finds, sectors_find}
use Rattle.law_repair.proofs.visits_find.Goals as goal

pub returns-clause-sectors : goal.returns-clause-sectors
returns-clause-sectors _ = sectors_find

pub returns-clause-lying : goal.returns-clause-lying
returns-clause-lying _ = lying_finds
