use Rattle.law_repair.proofs.GroupMoves.{groups_keep_up}
use Rattle.law_repair.proofs.groups_keep_up.Goals as goal

pub returns : goal.returns
returns c = groups_keep_up
