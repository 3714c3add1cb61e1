use Rattle.law_9_answers.proofs.Started.{trials_start}
use Rattle.law_9_answers.proofs.order.trials_start_members.Goals as goal

pub returns : goal.returns
returns _ = trials_start
