use Rattle.law_6_one_log.proofs.Known.{one_log}
use Rattle.law_6_one_log.proofs.one_log.replicas_have_one_log.Goals as goal

pub returns : goal.returns
returns _ = one_log
