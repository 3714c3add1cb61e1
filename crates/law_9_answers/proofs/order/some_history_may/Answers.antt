use Rattle.law_9_answers.proofs.OrderInstance.{some_history}
use Rattle.law_9_answers.proofs.order.some_history_may.Goals as goal

pub returns : goal.returns
returns _ = some_history
