use Rattle.law_2_chains.proofs.Chained.{chain_react}
use Rattle.law_2_chains.proofs.steps.steps_are_chains.Goals as goal

pub returns : goal.returns
returns g _ = λ u start i t r f l e fits several x tables hash group names top free may. chain_react u fits several start i t r f l x tables hash group names top free e may
