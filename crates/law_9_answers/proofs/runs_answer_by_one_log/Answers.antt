use Rattle.law_9_answers.proofs.Asking.{runs_answer}
use Rattle.law_9_answers.proofs.runs_answer_by_one_log.Goals as goal

pub returns : goal.returns
returns _ = runs_answer
