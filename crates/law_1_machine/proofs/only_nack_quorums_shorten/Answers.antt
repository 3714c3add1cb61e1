use Rattle.law_1_machine.proofs.Moves.{reached_good}
use Rattle.law_1_machine.proofs.Laws.{shortening}
use Rattle.law_1_machine.proofs.only_nack_quorums_shorten.Goals as goal

pub returns : goal.returns
returns g _ = λ q hs s reached. let b = reached_good q hs s reached in shortening q hs b.0 s b.1
