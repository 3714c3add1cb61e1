use Rattle.vr_rings.proofs.Moving.{moves_keep}
use Rattle.vr_rings.proofs.laws.moves_keep.Goals as goal

pub returns : goal.returns
returns c = moves_keep
