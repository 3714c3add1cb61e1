use Rattle.std.proofs.Common.{◌≡◌, ◌∙◌, arith, ap, sym, ◌&&◌}
use Rattle.std.specs.Prelude.{nat_eq}
use Rattle.std.specs.Cmp.Lexicographic.{pointwise}
use Rattle.std.proofs.lemmas.Bool.{eq-eqb}
use Rattle.vr_header.specs.Names.{header_name}
use Rattle.vr_ckpt.proofs.Contents.{sum_there}
use Rattle.vr_ckpt.proofs.check.has_name.Goals as goal

pub returns-then-h-name : goal.returns-then-h-name
returns-then-h-name c =
    let h = c.args.h.now in
    let sum = c.args.name.now.sum.0 in
    let s : c.sum_at.result.0 ≡ (header_name h).0 = c.sum_at.ensures ∙ sum_there c.args.bytes.now h (λ i. omega (arith, c.type_inv.bytes i)) c.requires.read in
    c.eq.ensures ∙ (ap (λ b. pointwise nat_eq b sum) s ∙ sym (ap (λ t. t && pointwise nat_eq (header_name h).0 sum) (eq-eqb h.aux c.args.name.now.address c.if-h-name.true)))
