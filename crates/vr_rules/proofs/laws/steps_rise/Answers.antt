use Rattle.vr_rules.proofs.Rising.{steps_rise}
use Rattle.vr_rules.proofs.laws.steps_rise.Goals as goal

pub returns : goal.returns
returns g _ = λ s f r e h m. steps_rise s f r e h m
