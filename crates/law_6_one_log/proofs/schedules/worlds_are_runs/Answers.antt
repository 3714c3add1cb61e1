use Rattle.law_6_one_log.proofs.Fresh.{worlds_are_runs}
use Rattle.law_6_one_log.proofs.schedules.worlds_are_runs.Goals as goal

pub returns : goal.returns
returns c = worlds_are_runs
