use Rattle.std.proofs.Common.{arith, sym, ap, ◌∙◌}
use Rattle.vr_codec.specs.Reading.{frame_for}
use Rattle.vr_codec.proofs.Decided.{asking_found, frame_found, frame_missing, inspected_found, name_found}
use Rattle.vr_codec.proofs.codec.read_message.Goals as goal

pub split_at-requires : goal.split_at-requires
split_at-requires c = (inspected_found c.args.bytes.now c.args.header.now (λ i. omega (arith, c.type_inv.bytes i)) c.requires).long

pub read_frame-requires-clause-numbers : goal.read_frame-requires-clause-numbers
read_frame-requires-clause-numbers c = (inspected_found c.args.bytes.now c.args.header.now (λ i. omega (arith, c.type_inv.bytes i)) c.requires).shape.numbers

pub read_frame-requires-clause-body : goal.read_frame-requires-clause-body
read_frame-requires-clause-body c = rw c.split_at.ensures.back ((inspected_found c.args.bytes.now c.args.header.now (λ i. omega (arith, c.type_inv.bytes i)) c.requires).shape.fits)

pub read_frame-requires-clause-asking : goal.read_frame-requires-clause-asking
read_frame-requires-clause-asking c =
    rw c.split_at.ensures.back (asking_found c.args.bytes.now c.args.header.now (inspected_found c.args.bytes.now c.args.header.now (λ i. omega (arith, c.type_inv.bytes i)) c.requires))

pub read_frame-requires-clause-name : goal.read_frame-requires-clause-name
read_frame-requires-clause-name c =
    name_found c.args.bytes.now c.args.header.now c.sum_at.result (inspected_found c.args.bytes.now c.args.header.now (λ i. omega (arith, c.type_inv.bytes i)) c.requires) c.sum_at.ensures

pub new-requires : goal.new-requires
new-requires c =
    (frame_found c.args.bytes.now c.args.header.now c.in-Ok-Some.frame (λ i. omega (arith, c.type_inv.bytes i)) c.requires
    (ap (frame_for c.args.header.now.command c.args.header.now) (sym c.split_at.ensures.back) ∙ (sym c.in-Ok-Some.ensures ∙ c.in-Ok-Some.field-0-is))).form

pub returns-in-Ok-Some : goal.returns-in-Ok-Some
returns-in-Ok-Some c =
    rw c.new.ensures
    (frame_found c.args.bytes.now c.args.header.now c.in-Ok-Some.frame (λ i. omega (arith, c.type_inv.bytes i)) c.requires
    (ap (frame_for c.args.header.now.command c.args.header.now) (sym c.split_at.ensures.back) ∙ (sym c.in-Ok-Some.ensures ∙ c.in-Ok-Some.field-0-is)))

pub returns-in-Ok-None : goal.returns-in-Ok-None
returns-in-Ok-None c =
    absurd (frame_missing c.args.bytes.now c.args.header.now (λ i. omega (arith, c.type_inv.bytes i)) c.requires
    (ap (frame_for c.args.header.now.command c.args.header.now) (sym c.split_at.ensures.back) ∙ (sym c.in-Ok-None.ensures ∙ c.in-Ok-None.field-0-is)))
