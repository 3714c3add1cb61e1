use Rattle.law_6_one_log.proofs.Entry.{some_entry_may}
use Rattle.law_6_one_log.proofs.schedules.some_entry_may.Goals as goal

pub returns : goal.returns
returns _ = some_entry_may
