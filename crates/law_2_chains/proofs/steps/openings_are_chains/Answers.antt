use Rattle.law_2_chains.proofs.Opening.{opens}
use Rattle.law_2_chains.proofs.steps.openings_are_chains.Goals as goal

pub returns : goal.returns
returns g _ = λ u start i l made v t f b. opens u start i l made v t f b
