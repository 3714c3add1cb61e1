use Rattle.law_7_members.proofs.Keeping.{nodes_keep_one_log}
use Rattle.law_7_members.proofs.nodes_keep_one_log.Goals as goal

pub returns : goal.returns
returns _ = nodes_keep_one_log
