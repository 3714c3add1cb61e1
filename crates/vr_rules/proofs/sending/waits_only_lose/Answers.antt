use Rattle.vr_rules.proofs.SilentVisits as visits
use Rattle.vr_rules.proofs.sending.waits_only_lose.Goals as goal

pub returns : goal.returns
returns g _ = visits.waits_only_lose
