use Rattle.std.proofs.Common.{◌≡◌, ◌≤◌, ◌++◌, length, take, drop, sym, ap, ◌∙◌, arith}
use Rattle.std.proofs.lemmas.List.{take-append-drop, take_all}
use Rattle.vr_base.specs.Bytes.{name_of}
use Rattle.vr_header.specs.Spelling.{header_bytes, named_bytes}
use Rattle.vr_header.proofs.HeaderLaws.{decoded_again}
use Rattle.vr_header.proofs.codec.encode.Goals as goal

pub returns-clause-bytes : goal.returns-clause-bytes
unfolding header_bytes
returns-clause-bytes c =
    let out = c.put_sum.new.out in
    let rest : drop 16 out ≡ named_bytes c.args.h.now = c.put_sum.ensures.back ∙ c.written-out.ensures.bytes in
    let name : take 16 out ≡ name_of (named_bytes c.args.h.now) = c.put_sum.ensures.front ∙ (c.name_of_rest-name.ensures ∙ ap name_of c.written-out.ensures.bytes) in
    sym (take-append-drop 16 out) ∙ (ap (λ x. x ++ drop 16 out) name ∙ ap (λ x. name_of (named_bytes c.args.h.now) ++ x) rest)

pub returns-clause-again : goal.returns-clause-again
returns-clause-again c =
    let out = c.put_sum.new.out in
    let len : length out ≤ 128 = omega arith in
    decoded_again c.args.h.now out c.written-out.ensures.header (take_all 128 out len ∙ returns-clause-bytes c)
