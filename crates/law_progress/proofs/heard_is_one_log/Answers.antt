use Rattle.law_progress.proofs.Agreeing.{heard_is_one_log}
use Rattle.law_progress.proofs.heard_is_one_log.Goals as goal

pub returns : goal.returns
returns c = heard_is_one_log
