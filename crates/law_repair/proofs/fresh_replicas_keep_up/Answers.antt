use Rattle.law_repair.proofs.KeepingUp.{fresh_keep_up}
use Rattle.law_repair.proofs.fresh_replicas_keep_up.Goals as goal

pub returns : goal.returns
returns c = fresh_keep_up
