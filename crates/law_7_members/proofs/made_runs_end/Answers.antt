use Rattle.law_7_members.proofs.Ending.{made_runs_end}
use Rattle.law_7_members.proofs.made_runs_end.Goals as goal

pub returns : goal.returns
returns _ = made_runs_end
