use Rattle.rows_computed.proofs.Meeting.{careful_path_meets_all}
use Rattle.rows_computed.proofs.schedules.careful_path_meets_all.Goals as goal

pub returns : goal.returns
returns c = careful_path_meets_all
