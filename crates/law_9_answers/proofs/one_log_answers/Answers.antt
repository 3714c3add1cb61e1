use Rattle.law_9_answers.proofs.Asking.{one_log_answers}
use Rattle.law_9_answers.proofs.one_log_answers.Goals as goal

pub returns : goal.returns
returns _ = one_log_answers
