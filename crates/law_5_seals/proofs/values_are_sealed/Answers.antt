use Rattle.law_5_seals.proofs.Laws.{values_are_sealed}
use Rattle.law_5_seals.proofs.values_are_sealed.Goals as goal

pub returns : goal.returns
returns _ = values_are_sealed
