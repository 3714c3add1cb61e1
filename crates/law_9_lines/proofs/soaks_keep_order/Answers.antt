use Rattle.law_9_lines.proofs.Ordered.{soaks_keep_order}
use Rattle.law_9_lines.proofs.soaks_keep_order.Goals as goal

pub returns : goal.returns
returns _ = soaks_keep_order
