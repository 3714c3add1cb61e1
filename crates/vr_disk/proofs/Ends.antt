-- Zeros at the end of a text.
use Rattle.std.proofs.Common.{ℕ, ◌+◌, ◌-◌, ◌*◌, ◌≤◌, ◌≡◌, arith, sym, ap, ◌∙◌, true, List, ◌++◌, length, drop, take}
use Rattle.std.specs.Prelude.{nat_eq, replicate}
use Rattle.std.specs.Cmp.Lexicographic.{pointwise}
use Rattle.std.proofs.lemmas.List.{drop-drop, length-drop, length-take-le, replicate-append-replicate, take-append-drop}
use Rattle.std.proofs.lemmas.Slice.Eq.{bytes_eq-Decides}
use Rattle.vr_base.specs.Bytes.{is_zeros}
use Rattle.vr_base.proofs.ZeroLaws.{are_zeros}

-- one sector more of them
pub more_zeros : (b : List ℕ) (k : ℕ) → 512 * (k + 1) ≤ length b → drop (length b - 512 * k) b ≡ replicate (512 * k) 0 → is_zeros (take 512 (drop (length b - 512 * k - 512) b)) ≡ true
    → drop (length b - 512 * (k + 1)) b ≡ replicate (512 * (k + 1)) 0
more_zeros b k l e z =
    let at : ℕ = length b - 512 * k - 512 in
    let rest : List ℕ = drop at b in
    let size : length rest ≡ 512 * k + 512 = length-drop at b ∙ omega (arith, l) in
    let one : take 512 rest ≡ replicate 512 0 = are_zeros (take 512 rest) z ∙ ap (λ n. replicate n 0) (length-take-le 512 rest (omega (arith, size))) in
    let past : 512 + at ≡ length b - 512 * k = omega (arith, l) in
    let two : drop 512 rest ≡ replicate (512 * k) 0 = drop-drop 512 at b ∙ (ap (λ n. drop n b) (omega (arith, l)) ∙ e) in
    let from : length b - 512 * (k + 1) ≡ at = omega (arith, l) in
    ap (λ n. drop n b) from ∙ (sym (take-append-drop 512 rest) ∙ (ap (λ x. x ++ drop 512 rest) one ∙ (ap (λ y. replicate 512 0 ++ y) two ∙ (replicate-append-replicate 512 (512 * k) 0 ∙ ap (λ n. replicate n 0) (omega arith)))))

-- a text without the zeros at its end, compared by its two parts
pub same_text : (b kept : List ℕ) (zeros : ℕ) → pointwise nat_eq kept (take (length kept) b) ≡ true → length (drop (length kept) b) ≡ zeros → is_zeros (drop (length kept) b) ≡ true → kept ++ replicate zeros 0 ≡ b
same_text b kept zeros s n z =
    ap (λ x. x ++ replicate zeros 0) ((bytes_eq-Decides kept (take (length kept) b)).0 s)
    ∙ (ap (λ y. take (length kept) b ++ y) (ap (λ m. replicate m 0) (sym n) ∙ sym (are_zeros (drop (length kept) b) z)) ∙ take-append-drop (length kept) b)
