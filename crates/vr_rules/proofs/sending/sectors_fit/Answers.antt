use Rattle.vr_rules.proofs.SavesSectors as sectors
use Rattle.vr_rules.proofs.sending.sectors_fit.Goals as goal

pub returns : goal.returns
returns _ = sectors.sectors_fit
