use Rattle.vr_lie.proofs.Premise.{premise_stays}
use Rattle.vr_lie.proofs.laws.lie_laws.Goals as goal

pub returns : goal.returns
returns c = premise_stays
