use Rattle.law_1_machine.proofs.Moves.{reached_good}
use Rattle.law_1_machine.proofs.Laws.{states}
use Rattle.law_1_machine.proofs.states_come_from_committed_entries.Goals as goal

pub returns : goal.returns
returns g _ = λ q hs s reached. let b = reached_good q hs s reached in states q hs b.0 s b.1
