use Rattle.law_7_members.proofs.Left.{files_open_as_own}
use Rattle.law_7_members.proofs.files_open_as_own.Goals as goal

pub returns : goal.returns
returns _ = files_open_as_own
