use Rattle.law_6_one_log.proofs.Replying.{runs_reply}
use Rattle.law_6_one_log.proofs.replies.runs_reply.Goals as goal

pub returns : goal.returns
returns _ = λ cluster n u run x bridges. runs_reply cluster n u run x bridges
