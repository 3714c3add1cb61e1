use Rattle.law_repair.proofs.Asking as asking
use Rattle.law_repair.proofs.ticks_ask.Goals as goal

pub returns : goal.returns
returns g _ = asking.ticks_ask
