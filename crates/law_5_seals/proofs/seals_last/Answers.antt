use Rattle.law_5_seals.proofs.Laws.{seals_last}
use Rattle.law_5_seals.proofs.seals_last.Goals as goal

pub returns : goal.returns
returns _ = seals_last
