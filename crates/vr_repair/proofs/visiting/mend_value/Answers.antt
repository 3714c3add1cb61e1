use Rattle.vr_repair.proofs.Visits.{mend_is}
use Rattle.vr_repair.proofs.visiting.mend_value.Goals as goal

pub returns-clause-runs : goal.returns-clause-runs
returns-clause-runs g c = mend_is _ _ _ _ _ c.saved.ensures c.mend_value.ensures.runs
