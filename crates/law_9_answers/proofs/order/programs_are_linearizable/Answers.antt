use Rattle.law_9_answers.proofs.Interleaving.{programs_linearize}
use Rattle.law_9_answers.proofs.order.programs_are_linearizable.Goals as goal

pub returns : goal.returns
returns _ = programs_linearize
