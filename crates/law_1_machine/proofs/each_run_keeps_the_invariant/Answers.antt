use Rattle.law_1_machine.proofs.Moves.{reached_good}
use Rattle.law_1_machine.proofs.each_run_keeps_the_invariant.Goals as goal

pub returns : goal.returns
returns g _ = λ q hs. reached_good q hs
