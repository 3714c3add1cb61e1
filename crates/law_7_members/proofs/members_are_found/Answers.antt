use Rattle.law_7_members.proofs.Keeping.{members_are_found}
use Rattle.law_7_members.proofs.members_are_found.Goals as goal

pub returns : goal.returns
returns _ = members_are_found
