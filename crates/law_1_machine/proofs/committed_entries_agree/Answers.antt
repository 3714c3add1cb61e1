use Rattle.law_1_machine.proofs.Moves.{reached_good}
use Rattle.law_1_machine.proofs.Laws.{agreement}
use Rattle.law_1_machine.proofs.committed_entries_agree.Goals as goal

pub returns : goal.returns
returns g _ = λ q hs s reached. let b = reached_good q hs s reached in agreement q hs b.0 s b.1
