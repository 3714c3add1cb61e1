use Rattle.vr_rules.proofs.Reacting.{steps_stay_sound}
use Rattle.vr_rules.proofs.laws.steps_stay_sound.Goals as goal

pub returns : goal.returns
returns g _ = λ s f r e names h m. steps_stay_sound s f r e names h m
