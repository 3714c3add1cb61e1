use Rattle.law_1_machine.proofs.Moves.{reached_good}
use Rattle.law_2_chains.proofs.Facts.{backed_numbers}
use Rattle.law_2_chains.proofs.invariant.each_commit_number_is_backed.Goals as goal

pub returns : goal.returns
returns g _ = λ q hs s reached. let b = reached_good q hs s reached in backed_numbers q hs b.0 s b.1
