use Rattle.law_6_one_log.proofs.Writing.{runs_have_one}
use Rattle.law_6_one_log.proofs.checkpoint.checkpoints_are_one.Goals as goal

pub returns : goal.returns
returns _ = runs_have_one
