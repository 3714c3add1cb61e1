use Rattle.law_repair.proofs.Turning as turning
use Rattle.law_repair.proofs.visits_turn.Goals as goal

pub returns : goal.returns
returns g _ = turning.visits_turn
