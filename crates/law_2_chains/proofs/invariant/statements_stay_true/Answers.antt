use Rattle.law_2_chains.proofs.Facts.{true_statements}
use Rattle.law_2_chains.proofs.invariant.statements_stay_true.Goals as goal

pub returns : goal.returns
returns g _ = λ q hs g s y. true_statements q hs g s y
