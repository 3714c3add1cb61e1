use Rattle.law_7_members.proofs.Whole.{runs_keep_one_log}
use Rattle.law_7_members.proofs.runs_keep_one_log.Goals as goal

pub returns : goal.returns
returns _ = runs_keep_one_log
