use Rattle.law_6_one_log.proofs.ScheduleRuns.{happenings_are_runs}
use Rattle.law_6_one_log.proofs.schedules.happenings_are_runs.Goals as goal

pub returns : goal.returns
returns c = happenings_are_runs
