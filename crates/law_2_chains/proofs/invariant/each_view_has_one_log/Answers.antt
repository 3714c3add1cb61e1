use Rattle.law_2_chains.proofs.Facts.{one_log}
use Rattle.law_2_chains.proofs.invariant.each_view_has_one_log.Goals as goal

pub returns : goal.returns
returns g _ = λ q hs g s y. one_log q hs g s y
