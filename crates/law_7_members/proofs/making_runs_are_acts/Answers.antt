use Rattle.law_7_members.proofs.Running.{making_runs_are_acts}
use Rattle.law_7_members.proofs.making_runs_are_acts.Goals as goal

pub returns : goal.returns
returns _ = making_runs_are_acts
