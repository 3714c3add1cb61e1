use Rattle.law_5_seals.proofs.Moving.{moves_are_sealed}
use Rattle.law_5_seals.proofs.moves_are_sealed.Goals as goal

pub returns : goal.returns
returns _ = moves_are_sealed
