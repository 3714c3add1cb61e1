use Rattle.law_2_chains.proofs.Waking.{fresh_runs_so}
use Rattle.law_2_chains.proofs.runs.fresh_runs_are_chains.Goals as goal

pub returns : goal.returns
returns _ = fresh_runs_so
