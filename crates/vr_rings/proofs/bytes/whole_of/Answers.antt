use Rattle.std.proofs.Common.{◌∙◌, ap}
use Rattle.std.specs.Option.{option_map}
use Rattle.vr_header.specs.Made.{Whole}
use Rattle.vr_rings.specs.Slots.{whole_of}
use Rattle.vr_rings.proofs.Fronts.{front_all}
use Rattle.vr_rings.proofs.bytes.whole_of.Goals as goal

pub returns-clause-value : goal.returns-clause-value
returns-clause-value g c = c.whole_front.ensures.value ∙ ap (λ b. option_map (λ (e : Whole). e.header) (whole_of b)) (front_all c.args.bytes.now c.requires)
