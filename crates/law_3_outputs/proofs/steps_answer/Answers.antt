use Rattle.law_3_outputs.proofs.Answers.{right_react}
use Rattle.law_3_outputs.proofs.steps_answer.Goals as goal

pub returns : goal.returns
returns g _ = λ log numbers s r f e within puts had lined. right_react log numbers s r f within e puts had lined
