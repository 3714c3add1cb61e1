use Rattle.law_3_outputs.proofs.Reading.{runs_read}
use Rattle.law_3_outputs.proofs.runs_read_good.Goals as goal

pub returns : goal.returns
returns _ = λ cluster n run x t p is c j. runs_read cluster n run x t p is c j
