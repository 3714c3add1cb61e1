use Rattle.vr_choose.proofs.Choices.{choice_only}
use Rattle.vr_choose.proofs.laws.decides_one.Goals as goal

pub returns : goal.returns
returns c = choice_only
