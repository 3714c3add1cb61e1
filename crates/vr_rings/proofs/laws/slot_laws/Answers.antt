use Rattle.vr_rings.proofs.Spelling.{one_spelling}
use Rattle.vr_rings.proofs.laws.slot_laws.Goals as goal

pub returns : goal.returns
returns c = record { spelling = one_spelling }
