use Rattle.law_4_disks.proofs.ChainingRules.{c_react}
use Rattle.law_4_disks.proofs.steps_chain.Goals as goal

pub returns : goal.returns
returns g _ = λ s f r e. (c_react e).each s r f
