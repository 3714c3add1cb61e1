use Rattle.std.proofs.Common.{◌≡◌, ◌++◌, take, drop, sym, ap, ◌∙◌}
use Rattle.std.proofs.lemmas.List.{take-append-drop}
use Rattle.vr_base.specs.declared.sum.Sum.{Sum}
use Rattle.vr_base.specs.Bytes.{name_of}
use Rattle.vr_header.specs.Spelling.{header_bytes, named_bytes}
use Rattle.vr_header.proofs.codec.spelled.Goals as goal

pub returns-clause-bytes : goal.returns-clause-bytes
unfolding header_bytes
returns-clause-bytes c =
    let out = c.put_sum.new.out in
    let rest : drop 16 out ≡ named_bytes c.args.h.now = c.put_sum.ensures.back ∙ c.written-out.ensures.bytes in
    let name : take 16 out ≡ name_of (named_bytes c.args.h.now) = c.put_sum.ensures.front ∙ ap (λ (s : Sum). s.0) c.requires in
    sym (take-append-drop 16 out) ∙ (ap (λ x. x ++ drop 16 out) name ∙ ap (λ x. name_of (named_bytes c.args.h.now) ++ x) rest)
