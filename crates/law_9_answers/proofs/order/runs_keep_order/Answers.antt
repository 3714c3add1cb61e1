use Rattle.law_9_answers.proofs.Acting.{runs_keep_order}
use Rattle.law_9_answers.proofs.order.runs_keep_order.Goals as goal

pub returns : goal.returns
returns _ = runs_keep_order
