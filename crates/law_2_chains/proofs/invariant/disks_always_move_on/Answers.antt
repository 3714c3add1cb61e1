use Rattle.law_1_machine.proofs.Moves.{reached_good}
use Rattle.law_2_chains.proofs.Facts.{disks_move_on}
use Rattle.law_2_chains.proofs.invariant.disks_always_move_on.Goals as goal

pub returns : goal.returns
returns g _ = λ q hs s s' reached step. let b = reached_good q hs s reached in disks_move_on q hs b.0 s b.1 s' step
