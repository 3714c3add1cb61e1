use Rattle.law_4_disks.proofs.Scripts.{openings_stay}
use Rattle.law_4_disks.proofs.openings_stay.Goals as goal

pub returns : goal.returns
returns c = openings_stay
