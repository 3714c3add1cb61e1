use Rattle.law_repair.proofs.Asking as asking
use Rattle.law_repair.proofs.short_replicas_ask.Goals as goal

pub returns : goal.returns
returns g _ = asking.short_replicas_ask
