use Rattle.law_6_one_log.proofs.Witness.{some_schedule_may}
use Rattle.law_6_one_log.proofs.schedules.some_schedule_may.Goals as goal

pub returns : goal.returns
returns c = some_schedule_may
