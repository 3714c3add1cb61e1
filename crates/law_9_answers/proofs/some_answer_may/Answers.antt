use Rattle.law_9_answers.proofs.Instance.{some_may}
use Rattle.law_9_answers.proofs.some_answer_may.Goals as goal

pub returns : goal.returns
returns _ = some_may
