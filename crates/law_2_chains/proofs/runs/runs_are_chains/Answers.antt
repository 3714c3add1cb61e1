use Rattle.law_2_chains.proofs.Bridging.{runs_so}
use Rattle.law_2_chains.proofs.runs.runs_are_chains.Goals as goal

pub returns : goal.returns
returns _ = λ u g s run fits hash fit h r bridge. runs_so u fits hash g s run fit h r bridge
