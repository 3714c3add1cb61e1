use Rattle.law_progress.proofs.Trying.{whole_quorums_decide}
use Rattle.law_progress.proofs.whole_quorums_decide.Goals as goal

pub returns : goal.returns
returns g c = whole_quorums_decide
