use Rattle.law_damage.proofs.Laws.{readings}
use Rattle.law_damage.proofs.readings_alike.Goals as goal

pub returns : goal.returns
returns c = readings
