use Rattle.law_2_chains.proofs.Facts.{not_cut, changes_meet}
use Rattle.law_2_chains.proofs.invariant.quorums_meet.Goals as goal

pub returns : goal.returns
returns g _ = λ q hs. (not_cut q hs, changes_meet)
