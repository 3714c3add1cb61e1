use Rattle.rows_computed.proofs.Meeting.{torn_prepare_meets_all}
use Rattle.rows_computed.proofs.schedules.torn_prepare_meets_all.Goals as goal

pub returns : goal.returns
returns c = torn_prepare_meets_all
