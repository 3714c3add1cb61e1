use Rattle.law_3_outputs.proofs.Picking.{chosen_by}
use Rattle.law_3_outputs.proofs.steps_choose.Goals as goal

pub returns : goal.returns
returns g _ = λ s r f e sound l i. chosen_by s r f sound e l i
