use Rattle.law_6_one_log.proofs.Fresh.{worlds_begin_unforged}
use Rattle.law_6_one_log.proofs.schedules.worlds_begin_unforged.Goals as goal

pub returns : goal.returns
returns c = worlds_begin_unforged
