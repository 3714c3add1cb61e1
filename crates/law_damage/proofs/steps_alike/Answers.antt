use Rattle.law_damage.proofs.Laws.{steps}
use Rattle.law_damage.proofs.steps_alike.Goals as goal

pub returns : goal.returns
returns c = steps
