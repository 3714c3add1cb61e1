use Rattle.rows_computed.proofs.Meeting.{one_alone_meets_all}
use Rattle.rows_computed.proofs.schedules.one_alone_meets_all.Goals as goal

pub returns : goal.returns
returns c = one_alone_meets_all
