use Rattle.law_4_disks.proofs.Scripts.{openings_cut}
use Rattle.law_4_disks.proofs.openings_cut.Goals as goal

pub returns : goal.returns
returns c = openings_cut
