use Rattle.vr_rules.proofs.Silent as silent
use Rattle.vr_rules.proofs.sending.only_hearing_is_done.Goals as goal

pub returns : goal.returns
returns g _ = silent.only_hearing_is_done
