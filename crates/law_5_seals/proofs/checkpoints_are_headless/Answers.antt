use Rattle.law_5_seals.proofs.Checks.{checkpoints_are_headless}
use Rattle.law_5_seals.proofs.checkpoints_are_headless.Goals as goal

pub returns : goal.returns
returns _ = checkpoints_are_headless
