use Rattle.law_6_one_log.proofs.Fresh.{schedules_are_runs}
use Rattle.law_6_one_log.proofs.schedules.schedules_are_runs.Goals as goal

pub returns : goal.returns
returns c = schedules_are_runs
