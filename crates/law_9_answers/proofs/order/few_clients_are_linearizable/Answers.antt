use Rattle.law_9_answers.proofs.Few.{few_linearize}
use Rattle.law_9_answers.proofs.order.few_clients_are_linearizable.Goals as goal

pub returns : goal.returns
returns _ = few_linearize
