use Rattle.law_damage.proofs.Laws.{openings}
use Rattle.law_damage.proofs.openings_alike.Goals as goal

pub returns : goal.returns
returns c = openings
