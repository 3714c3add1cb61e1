use Rattle.law_damage.proofs.Damage.{damage}
use Rattle.law_damage.proofs.damage_alike.Goals as goal

pub returns : goal.returns
returns c = damage
