use Rattle.law_9_lines.proofs.Ordered.{replays_keep_order}
use Rattle.law_9_lines.proofs.replays_keep_order.Goals as goal

pub returns : goal.returns
returns _ = replays_keep_order
