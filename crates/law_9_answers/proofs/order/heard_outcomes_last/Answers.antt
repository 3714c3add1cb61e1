use Rattle.law_9_answers.proofs.Lasting.{heard_last}
use Rattle.law_9_answers.proofs.order.heard_outcomes_last.Goals as goal

pub returns : goal.returns
returns _ = heard_last
