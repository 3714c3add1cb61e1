use Rattle.law_7_members.proofs.Whole.{runs_are_at_work}
use Rattle.law_7_members.proofs.runs_are_at_work.Goals as goal

pub returns : goal.returns
returns _ = runs_are_at_work
