use Rattle.law_9_asked.proofs.Ordered.{schedules_keep_order}
use Rattle.law_9_asked.proofs.schedules_keep_order.Goals as goal

pub returns : goal.returns
returns _ = schedules_keep_order
