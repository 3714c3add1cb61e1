use Rattle.std.proofs.Common.{◌≡◌, ◌∙◌, ◌++◌, ap, arith, length}
use Rattle.vr_super.specs.Copies.{SuperValue, front_bytes, list_bytes}
use Rattle.vr_super.proofs.Format.{count_fits}
use Rattle.vr_super.proofs.Spelling.{text_is}
use Rattle.vr_super.proofs.bytes.spell.Goals as goal

pub overflow_cast-headers : goal.overflow_cast-headers
overflow_cast-headers c = let k = count_fits c.args.fields.now (length c.args.headers.now) c.requires.fields in omega arith

pub returns : goal.returns
returns c =
    let v : SuperValue = record { fields = c.args.fields.now; headers = c.args.headers.now } in
    let numbers : c.split_at.result.1.now ≡ front_bytes v.fields (length v.headers) = c.split_at.ensures.back ∙ c.front-first.ensures.bytes in
    text_is v c.requires c.split_at.result.1.now c.push_headers.new.bytes.items c.resize.new.self.items c.push_headers.new.bytes.len numbers
    (c.in_ok-push_headers.ensures ∙ ap (λ x. x ++ list_bytes c.args.headers.now) (c.in_ok-extend_from_slice.ensures.items ∙ ap (λ x. x ++ c.split_at.result.1.now) c.in_ok-text.ensures.items))
    (omega arith)
    c.in_ok-resize.ensures.items
