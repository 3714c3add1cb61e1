use Rattle.law_damage.proofs.Damage.{premise}
use Rattle.law_damage.proofs.premise_alike.Goals as goal

pub returns : goal.returns
returns c = premise
