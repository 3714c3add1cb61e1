use Rattle.law_7_members.proofs.Begun.{zeros_begin_the_first}
use Rattle.law_7_members.proofs.zeros_begin_the_first.Goals as goal

pub returns : goal.returns
returns _ = zeros_begin_the_first
