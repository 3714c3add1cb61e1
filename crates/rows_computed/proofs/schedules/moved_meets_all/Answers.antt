use Rattle.rows_computed.proofs.Meeting.{moved_meets_all}
use Rattle.rows_computed.proofs.schedules.moved_meets_all.Goals as goal

pub returns : goal.returns
returns c = moved_meets_all
