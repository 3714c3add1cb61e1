use Rattle.law_progress.proofs.Beginning.{new_groups_answer}
use Rattle.law_progress.proofs.new_groups_answer.Goals as goal

pub returns : goal.returns
returns c = new_groups_answer
