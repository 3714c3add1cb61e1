use Rattle.vr_replica.proofs.Bounding as bounding
use Rattle.vr_replica.proofs.bounds.table_rows.Goals as goal

pub returns : goal.returns
returns _ = record { single = bounding.answers_are_single; rows = bounding.table_rows }
