use Rattle.law_2_chains.proofs.Facts.{keeps_vouched}
use Rattle.law_2_chains.proofs.invariant.vouched_is_kept.Goals as goal

pub returns : goal.returns
returns g _ = λ q hs g s y. keeps_vouched q hs g s y
