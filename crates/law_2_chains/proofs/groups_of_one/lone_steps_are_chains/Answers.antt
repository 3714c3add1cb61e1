use Rattle.law_2_chains.proofs.LoneEvents.{lone_react}
use Rattle.law_2_chains.proofs.groups_of_one.lone_steps_are_chains.Goals as goal

pub returns : goal.returns
returns g _ = λ u start i t r f l e fits one x tables hash group names top free may. lone_react u fits one start i t r f l x hash group names top free tables e may
