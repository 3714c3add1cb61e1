use Rattle.law_7_members.proofs.Deeds.{runs_deeds}
use Rattle.law_7_members.proofs.runs_are_deeds.Goals as goal

pub returns : goal.returns
returns _ = runs_deeds
