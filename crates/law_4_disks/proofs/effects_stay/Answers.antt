use Rattle.law_4_disks.proofs.Playing.{stay}
use Rattle.law_4_disks.proofs.effects_stay.Goals as goal

pub returns : goal.returns
returns c = stay
