use Rattle.vr_world.proofs.FitLies as fit
use Rattle.vr_world.proofs.laws.lies_are_fit.Goals as goal

pub returns : goal.returns
returns _ = fit.lies_fit
