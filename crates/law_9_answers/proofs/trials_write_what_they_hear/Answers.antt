use Rattle.law_9_answers.proofs.Writing.{trials_write}
use Rattle.law_9_answers.proofs.trials_write_what_they_hear.Goals as goal

pub returns : goal.returns
returns _ = trials_write
