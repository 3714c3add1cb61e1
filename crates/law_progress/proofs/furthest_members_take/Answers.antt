use Rattle.law_progress.proofs.Taking.{furthest_members_take}
use Rattle.law_progress.proofs.furthest_members_take.Goals as goal

pub returns : goal.returns
returns c = furthest_members_take
