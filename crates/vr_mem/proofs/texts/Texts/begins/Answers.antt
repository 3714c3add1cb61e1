use Rattle.std.proofs.Common.{◌∙◌, sym, refl, get_or, arith, ◌≡◌}
use Rattle.std.proofs.lemmas.Slice.Eq.{bytes_eq-Decides}
use Rattle.vr_mem.specs.Owed.{content_by}
use Rattle.vr_mem.proofs.Meant.{front_of, marked_owed}
use Rattle.vr_mem.proofs.texts.Texts.begins.Goals as goal

pub returns-then-byte-lt128 : goal.returns-then-byte-lt128
returns-then-byte-lt128 c t =
    let same : c.text.result.now ≡ c.args.text.now = (bytes_eq-Decides c.text.result.now c.args.text.now).0 (sym c.eq.ensures ∙ t) in
    sym (marked_owed c.args.self.now c.args.mark c.args.from.now (content_by c.args.self.now (get_or c.args.from.now 0 0)) c.in-Owed.is (λ i. omega (arith, c.type_inv.from i)) c.requires refl)
    ∙ front_of c.args.self.now (get_or c.args.from.now 0 0) c.args.text.now (omega (arith, c.if-byte-lt128.true)) (rw (← c.of.ensures) (sym c.text.ensures.text ∙ same))
