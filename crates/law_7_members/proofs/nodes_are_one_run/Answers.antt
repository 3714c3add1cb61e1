use Rattle.law_7_members.proofs.Moving.{one_run}
use Rattle.law_7_members.proofs.nodes_are_one_run.Goals as goal

pub returns : goal.returns
returns _ = one_run
