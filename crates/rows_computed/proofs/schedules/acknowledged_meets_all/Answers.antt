use Rattle.rows_computed.proofs.Meeting.{acknowledged_meets_all}
use Rattle.rows_computed.proofs.schedules.acknowledged_meets_all.Goals as goal

pub returns : goal.returns
returns c = acknowledged_meets_all
