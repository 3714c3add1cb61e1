use Rattle.law_9_answers.proofs.Timing.{histories_linearize}
use Rattle.law_9_answers.proofs.order.histories_are_linearizable.Goals as goal

pub returns : goal.returns
returns _ = histories_linearize
