use Rattle.law_4_disks.proofs.Matched.{lines_are_moves}
use Rattle.law_4_disks.proofs.lines_are_moves.Goals as goal

pub returns : goal.returns
returns c = lines_are_moves
