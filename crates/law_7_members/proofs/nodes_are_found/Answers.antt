use Rattle.law_7_members.proofs.Keeping.{nodes_are_found}
use Rattle.law_7_members.proofs.nodes_are_found.Goals as goal

pub returns : goal.returns
returns _ = nodes_are_found
