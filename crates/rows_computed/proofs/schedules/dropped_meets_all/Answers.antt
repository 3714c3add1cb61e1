use Rattle.rows_computed.proofs.Meeting.{dropped_meets_all}
use Rattle.rows_computed.proofs.schedules.dropped_meets_all.Goals as goal

pub returns : goal.returns
returns c = dropped_meets_all
