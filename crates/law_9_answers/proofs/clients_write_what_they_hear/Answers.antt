use Rattle.law_9_answers.proofs.Writing.{clients_write}
use Rattle.law_9_answers.proofs.clients_write_what_they_hear.Goals as goal

pub returns : goal.returns
returns _ = clients_write
