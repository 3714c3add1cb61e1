use Rattle.law_3_outputs.proofs.Fitting.{writes_good}
use Rattle.law_3_outputs.proofs.runs_write_good.Goals as goal

pub returns : goal.returns
returns _ = λ cluster n run x t p is. writes_good cluster n run x t p is
