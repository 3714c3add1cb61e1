use Rattle.law_1_machine.proofs.Growing.{open_shrinks}
use Rattle.law_1_machine.proofs.nothing_becomes_committable.Goals as goal

pub returns : goal.returns
returns g _ = λ q hs a b. open_shrinks q hs a b
