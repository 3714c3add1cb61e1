use Rattle.law_repair.proofs.Covering.{lying_lay_out, sectors_lay_out}
use Rattle.law_repair.proofs.layouts_stay.Goals as goal

pub returns-clause-sectors : goal.returns-clause-sectors
returns-clause-sectors _ = sectors_lay_out

pub returns-clause-lying : goal.returns-clause-lying
returns-clause-lying _ = lying_lay_out
