use Rattle.law_6_one_log.proofs.Following.{follows_it}
use Rattle.law_6_one_log.proofs.followed.fresh_runs_are_followed.Goals as goal

pub returns : goal.returns
returns _ = follows_it
