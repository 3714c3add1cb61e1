use Rattle.std.proofs.Common.{rules, ◌≡◌, ◌∙◌, ap, sym, true, length, drop, take}
use Rattle.std.specs.Prelude.{nat_eq}
use Rattle.std.specs.Cmp.Lexicographic.{pointwise}
use Rattle.vr_base.specs.Bytes.{is_zeros}
use Rattle.vr_disk.proofs.Ends.{same_text}
use Rattle.vr_disk.proofs.memo.Text.name_of.Goals as goal

pub returns-then-is_zeros : goal.returns-then-is_zeros
returns-then-is_zeros c =
    let b = c.args.bytes.now in
    let kept = c.self.inside.bytes.items in
    let zeros = c.self.inside.zeros in
    let back : drop (length kept) b ≡ c.split_at.result.1.now = search rules in
    let front : pointwise nat_eq kept (take (length kept) b) ≡ true = search rules in
    let rest : length (drop (length kept) b) ≡ zeros = search rules in
    let blank : is_zeros (drop (length kept) b) ≡ true = ap is_zeros back ∙ (sym c.is_zeros.ensures ∙ c.if-is_zeros.true) in
    rw (same_text b kept zeros front rest blank) at c.self.invariant
