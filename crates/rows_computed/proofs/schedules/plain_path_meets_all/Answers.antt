use Rattle.rows_computed.proofs.Meeting.{plain_path_meets_all}
use Rattle.rows_computed.proofs.schedules.plain_path_meets_all.Goals as goal

pub returns : goal.returns
returns c = plain_path_meets_all
