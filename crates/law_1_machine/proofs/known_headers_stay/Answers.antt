use Rattle.law_1_machine.proofs.Moves.{reached_good}
use Rattle.law_1_machine.proofs.Staying.{knows_still}
use Rattle.law_1_machine.proofs.known_headers_stay.Goals as goal

pub returns : goal.returns
returns g _ = λ q hs s s' reached step r m m' runs now. let b = reached_good q hs s reached in knows_still q hs b.0 s b.1 s' step r m m' runs now
