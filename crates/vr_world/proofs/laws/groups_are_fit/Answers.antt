use Rattle.vr_world.proofs.FitGroups as fit
use Rattle.vr_world.proofs.laws.groups_are_fit.Goals as goal

pub returns : goal.returns
returns _ = fit.groups_fit
