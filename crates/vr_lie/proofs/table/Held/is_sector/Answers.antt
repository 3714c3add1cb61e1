use Rattle.std.proofs.Common.{◌∙◌, ◌*◌, ap, cond, rules, sym, take, Bool}
use Rattle.std.specs.Prelude.{nat_eq}
use Rattle.std.specs.Cmp.Lexicographic.{pointwise}
use Rattle.vr_base.specs.Bytes.{piece}
use Rattle.vr_rings.specs.Slots.{in_front}
use Rattle.vr_lie.proofs.Ending.{first_sector, zeros_behind}
use Rattle.vr_lie.proofs.table.Held.is_sector.Goals as goal

pub returns-then-k-eq0 : goal.returns-then-k-eq0
returns-then-k-eq0 c =
    let b = c.args.bytes.now in
    c.eq.ensures ∙ (ap (pointwise nat_eq b) c.first.ensures.first ∙ first_sector c.args.self.now.short c.args.self.now.prepare b c.args.k (search rules) c.if-k-eq0.true)

pub returns-then-self : goal.returns-then-self
returns-then-self c = c.is_zeros.ensures ∙ zeros_behind c.args.self.now.short c.args.self.now.prepare c.args.bytes.now c.args.k (search rules) c.requires.size c.if-k-eq0.false c.requires.k c.if-self.true

pub returns : goal.returns
returns c =
    let p = c.args.self.now.prepare in
    let b = c.args.bytes.now in
    c.eq-2.ensures ∙ (ap (pointwise nat_eq b) (c.as_slice.ensures ∙ c.sector_at.ensures) ∙ ap (λ (s : Bool). pointwise nat_eq b (piece (512 * c.args.k) 512 (cond s (in_front (take 512 p)) p))) (sym c.if-self.false))
