use Rattle.law_4_disks.proofs.Opening.{openings_find}
use Rattle.law_4_disks.proofs.openings_find.Goals as goal

pub returns : goal.returns
returns c = openings_find
