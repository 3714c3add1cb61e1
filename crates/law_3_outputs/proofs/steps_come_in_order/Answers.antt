use Rattle.law_3_outputs.proofs.Ordering.{come_in_order}
use Rattle.law_3_outputs.proofs.steps_come_in_order.Goals as goal

pub returns : goal.returns
returns g _ = λ s r f e names sound came. come_in_order s r f e names sound came
