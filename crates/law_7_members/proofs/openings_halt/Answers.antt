use Rattle.law_7_members.proofs.Halting.{openings_halt}
use Rattle.law_7_members.proofs.openings_halt.Goals as goal

pub returns : goal.returns
returns _ = openings_halt
