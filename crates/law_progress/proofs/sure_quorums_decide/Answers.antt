use Rattle.law_progress.proofs.Deciding.{sure_quorums_decide}
use Rattle.law_progress.proofs.sure_quorums_decide.Goals as goal

pub returns : goal.returns
returns c = sure_quorums_decide
