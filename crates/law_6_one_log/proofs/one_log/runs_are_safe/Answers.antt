use Rattle.law_6_one_log.proofs.Closing.{runs_safe}
use Rattle.law_6_one_log.proofs.one_log.runs_are_safe.Goals as goal

pub returns : goal.returns
returns _ = runs_safe
