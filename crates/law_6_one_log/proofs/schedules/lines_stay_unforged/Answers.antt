use Rattle.law_6_one_log.proofs.ScheduleRuns.{lines_stay_unforged}
use Rattle.law_6_one_log.proofs.schedules.lines_stay_unforged.Goals as goal

pub returns : goal.returns
returns c = lines_stay_unforged
