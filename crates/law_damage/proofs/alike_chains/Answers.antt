use Rattle.law_damage.proofs.Damage.{chains}
use Rattle.law_damage.proofs.alike_chains.Goals as goal

pub returns : goal.returns
returns c = chains
