use Rattle.vr_rules.proofs.Openings.{openings_are_sound}
use Rattle.vr_rules.proofs.laws.openings_are_sound.Goals as goal

pub returns : goal.returns
returns g _ = λ s f v k h. openings_are_sound s f v k h
