use Rattle.law_repair.proofs.Covering.{lying_covers, sectors_cover}
use Rattle.law_repair.proofs.visits_cover.Goals as goal

pub returns-clause-sectors : goal.returns-clause-sectors
returns-clause-sectors _ = sectors_cover

pub returns-clause-lying : goal.returns-clause-lying
returns-clause-lying _ = lying_covers
