use Rattle.law_4_disks.proofs.Chaining.{c_resuming}
use Rattle.law_4_disks.proofs.openings_chain.Goals as goal

pub returns : goal.returns
returns g _ = λ s f r. c_resuming.each s r f
