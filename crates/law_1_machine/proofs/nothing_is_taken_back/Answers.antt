use Rattle.law_1_machine.proofs.Staying.{stays}
use Rattle.law_1_machine.proofs.nothing_is_taken_back.Goals as goal

pub returns : goal.returns
returns g _ = λ q hs s s' step. stays q hs s s' step
