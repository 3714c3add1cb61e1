use Rattle.std.proofs.Common.{◌∙◌, ap, sym}
use Rattle.std.specs.Prelude.{min}
use Rattle.std.specs.Option.{option_map}
use Rattle.vr_header.specs.Made.{Whole}
use Rattle.vr_rings.specs.Slots.{in_front, size_at, whole_of}
use Rattle.vr_rings.proofs.Fronts.{front_again, put_in_front, size_front}
use Rattle.vr_rings.proofs.bytes.whole_beyond.Goals as goal

pub whole_by-requires-clause-given : goal.whole_by-requires-clause-given
whole_by-requires-clause-given g c =
    let b = c.args.bytes.now in
    let made = put_in_front b c.put.new.out c.put.ensures.front c.put.ensures.back in
    c.requires.given ∙ ap (λ s. min s 4096) (sym (ap size_at made ∙ size_front b c.requires.least))

pub returns-clause-value : goal.returns-clause-value
returns-clause-value g c =
    let b = c.args.bytes.now in
    let made = put_in_front b c.put.new.out c.put.ensures.front c.put.ensures.back in
    c.whole_by.ensures.value ∙ ap (λ x. option_map (λ (e : Whole). e.header) (whole_of x)) (ap in_front made ∙ front_again b c.requires.most)
