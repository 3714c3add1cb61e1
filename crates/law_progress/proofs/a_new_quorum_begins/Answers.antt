use Rattle.law_progress.proofs.NewQuorum.{a_new_quorum_begins}
use Rattle.law_progress.proofs.a_new_quorum_begins.Goals as goal

pub returns : goal.returns
returns g c = a_new_quorum_begins
