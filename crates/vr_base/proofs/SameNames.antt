-- Two names are the same where the numbers of their halves are.
use Rattle.std.proofs.Common.{◌≡◌, ℕ, ◌+◌, ◌≤◌, List, ◌++◌, length, take, drop, ap, ◌∙◌, sym, arith, true, false, ◌&&◌, eqb, length-drop}
use Rattle.std.specs.Prelude.{nat_eq}
use Rattle.std.specs.Int.{w64}
use Rattle.std.specs.Cmp.Lexicographic.{pointwise}
use Rattle.std.proofs.lemmas.Bool.{and_parts, eqb-true, eq-eqb}
use Rattle.std.proofs.lemmas.Bool.Decides.{same_from_decides}
use Rattle.std.proofs.lemmas.List.{take-append-drop, take_all}
use Rattle.std.proofs.lemmas.Slice.Eq.{bytes_eq-Decides}
use Rattle.vr_base.specs.Bytes.{IsBytes, bytes64, number, piece}
use Rattle.vr_base.proofs.FieldLaws.{number64_back}

same_piece : (k : ℕ) (a b : List ℕ) → IsBytes a → IsBytes b → k + 8 ≤ length a → k + 8 ≤ length b → number w64 k a ≡ number w64 k b → piece k 8 a ≡ piece k 8 b
same_piece k a b are also l m e = sym (number64_back k a are l).0 ∙ (ap bytes64 e ∙ (number64_back k b also m).0)

halves : (a : List ℕ) → length a ≡ 16 → a ≡ piece 0 8 a ++ piece 8 8 a
unfolding piece
halves a l = sym (take-append-drop 8 a) ∙ ap (λ xs. take 8 a ++ xs) (sym (take_all 8 (drop 8 a) (let d = length-drop 8 a in omega arith)))

one_name : (a b : List ℕ) → length a ≡ 16 → length b ≡ 16 → IsBytes a → IsBytes b → number w64 0 a ≡ number w64 0 b → number w64 8 a ≡ number w64 8 b → a ≡ b
one_name a b l m are also e f =
    let front = same_piece 0 a b are also (omega arith) (omega arith) e in
    let back = same_piece 8 a b are also (omega arith) (omega arith) f in
    halves a l ∙ ((λ i. front i ++ back i) ∙ sym (halves b m))

numbers_of : (k : ℕ) (a b : List ℕ) → a ≡ b → eqb (number w64 k a) (number w64 k b) ≡ true
numbers_of k a b e = eq-eqb (number w64 k a) (number w64 k b) (ap (number w64 k) e)

same_numbers : (a b : List ℕ) → length a ≡ 16 → length b ≡ 16 → IsBytes a → IsBytes b
    → (eqb (number w64 0 a) (number w64 0 b) && eqb (number w64 8 a) (number w64 8 b)) ≡ pointwise nat_eq a b
same_numbers a b l m are also =
    let first = eqb (number w64 0 a) (number w64 0 b) in
    let second = eqb (number w64 8 a) (number w64 8 b) in
    same_from_decides (first && second) (pointwise nat_eq a b) (
      λ h. let p = and_parts first second h in one_name a b l m are also (eqb-true (number w64 0 a) (number w64 0 b) p.0) (eqb-true (number w64 8 a) (number w64 8 b) p.1),
      λ e i. numbers_of 0 a b e i && numbers_of 8 a b e i,
    )
    (bytes_eq-Decides a b)

pub same_by_back : (a b : List ℕ) → length a ≡ 16 → length b ≡ 16 → IsBytes a → IsBytes b → eqb (number w64 0 a) (number w64 0 b) ≡ true
    → eqb (number w64 8 a) (number w64 8 b) ≡ pointwise nat_eq a b
same_by_back a b l m are also h = ap (λ x. x && eqb (number w64 8 a) (number w64 8 b)) (sym h) ∙ same_numbers a b l m are also

pub other_by_front : (a b : List ℕ) → length a ≡ 16 → length b ≡ 16 → IsBytes a → IsBytes b → eqb (number w64 0 a) (number w64 0 b) ≡ false
    → pointwise nat_eq a b ≡ false
other_by_front a b l m are also h = sym (same_numbers a b l m are also) ∙ ap (λ x. x && eqb (number w64 8 a) (number w64 8 b)) h
