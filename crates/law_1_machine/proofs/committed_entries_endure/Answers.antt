use Rattle.law_1_machine.proofs.Moves.{reached_good}
use Rattle.law_1_machine.proofs.Laws.{durability}
use Rattle.law_1_machine.proofs.committed_entries_endure.Goals as goal

pub returns : goal.returns
returns g _ = λ q hs s reached u k a z p. let b = reached_good q hs s reached in durability q hs b.0 s b.1 u k a z p
