use Rattle.law_7_members.proofs.Ending.{found_runs_end}
use Rattle.law_7_members.proofs.found_runs_end.Goals as goal

pub returns : goal.returns
returns _ = found_runs_end
