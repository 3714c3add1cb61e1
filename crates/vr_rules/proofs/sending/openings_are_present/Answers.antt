use Rattle.vr_rules.proofs.SendsOpening as sends
use Rattle.vr_rules.proofs.sending.openings_are_present.Goals as goal

pub returns : goal.returns
returns g _ = sends.openings_are_present
