use Rattle.law_7_members.proofs.Making.{makings_leave}
use Rattle.law_7_members.proofs.makings_leave_unfinished.Goals as goal

pub returns : goal.returns
returns _ = makings_leave
