use Rattle.law_3_outputs.proofs.Truth.{safe}
use Rattle.law_3_outputs.proofs.followed_runs_are_safe.Goals as goal

pub returns : goal.returns
returns g = λ cluster n u run x y. safe cluster n u run x y
