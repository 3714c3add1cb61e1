use Rattle.law_7_members.proofs.Running.{node_runs_are_acts}
use Rattle.law_7_members.proofs.node_runs_are_acts.Goals as goal

pub returns : goal.returns
returns _ = node_runs_are_acts
