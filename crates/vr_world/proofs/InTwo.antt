-- An opening as the moves of a group have it, in two: what it mends and finds, and what comes of it.
use Rattle.std.proofs.Common.{◌≡◌, ◌∙◌, refl}
use Rattle.vr_super.specs.Copies.{SuperValue}
use Rattle.vr_rules.specs.Steps.{Step, ◌⨾◌}
use Rattle.vr_rules.specs.Opening.{blank, mending, opening, resuming}
use Rattle.vr_rules.proofs.Halves.{openings_go_on}
use Rattle.vr_world.specs.Lying.{Lying, lying}
use Rattle.vr_world.specs.Group.{opening_script, resumed}

abbrev pub in_two : SuperValue → Lying → Step
in_two v d = record { replica = (resumed v d).replica; script = opening_script v d }

two_is : (v : SuperValue) (d : Lying) → (mending v ⨾ resuming) lying (blank v) d ≡ in_two v d
unfolding ◌⨾◌
two_is v d = refl

pub opening_in_two : (v : SuperValue) (d : Lying) → opening v lying (blank v) d ≡ in_two v d
opening_in_two v d = openings_go_on lying d v (blank v) ∙ two_is v d
