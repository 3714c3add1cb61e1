use Rattle.law_9_answers.proofs.Interleaving.{few_programs_linearize}
use Rattle.law_9_answers.proofs.order.few_programs_are_linearizable.Goals as goal

pub returns : goal.returns
returns _ = few_programs_linearize
