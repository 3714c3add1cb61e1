use Rattle.vr_rules.proofs.SendsSteps as sends
use Rattle.vr_rules.proofs.sending.steps_are_present.Goals as goal

pub returns : goal.returns
returns g _ = sends.steps_are_present
