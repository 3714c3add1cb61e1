use Rattle.law_5_seals.proofs.Laws.{slots_are_sealed}
use Rattle.law_5_seals.proofs.slots_are_sealed.Goals as goal

pub returns : goal.returns
returns _ = slots_are_sealed
