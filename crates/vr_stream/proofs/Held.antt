-- What stands in the buffer of a deframer.
use Rattle.std.proofs.Common.{◌≡◌, ◌≤◌, ℕ, ◌+◌, ◌-◌, List, [], ◌∷◌, ◌++◌, length, take, drop, replicate, ap, sym, ◌∙◌, arith}
use Rattle.std.specs.List.{copy_within}
use Rattle.std.proofs.lemmas.Grind.{common_steps}
use Rattle.std.proofs.lemmas.List.{drop-drop, length-drop, replicate-append-replicate, take-append-drop}
use Rattle.std.proofs.lemmas.List.Edits.{take-paste}
use lib.Seq.{paste}
use Rattle.vr_stream.specs.Looking.{Gives, IsWhole}
use Rattle.vr_stream.specs.declared.next.Next.TheVariants as next

all_taken : (xs : List ℕ) (n : ℕ) → length xs ≡ n → take n xs ≡ xs
all_taken xs n e = grind (arith, common_steps, e)

-- what stands after a place, moved to the front
pub shifted : (bytes : List ℕ) (count : ℕ) → count ≤ length bytes → take (length bytes - count) (copy_within bytes count (length bytes) 0) ≡ drop count bytes
shifted bytes count h =
    let held = length bytes - count in
    let room : length (drop count bytes) ≡ held = length-drop count bytes in
    let none : 0 + held ≡ held = omega arith in
    ap (λ n. take n (paste bytes 0 (drop count bytes) held)) (sym none)
    ∙ take-paste bytes 0 (drop count bytes) held (omega arith) (omega (arith, room))
    ∙ all_taken (drop count bytes) held room

-- a message at the front, and what is left after it
pub whole_given : (bytes old to : List ℕ) (start size : ℕ) → old ≡ drop start bytes → to ≡ take size (drop start bytes) → IsWhole (drop start bytes) size
    → Gives old (drop (start + size) bytes) to next.Message
whole_given bytes old to start size o t w =
    let cut : take size (drop start bytes) ++ drop (start + size) bytes ≡ drop start bytes =
    ap (λ r. take size (drop start bytes) ++ r) (sym (drop-drop size start bytes)) ∙ take-append-drop size (drop start bytes) in
    rw (o, t) (w.message, sym cut)

pub one_more : {X : Type 0} (x : X) (n : ℕ) → replicate n x ++ x ∷ [] ≡ replicate (n + 1) x
one_more x n = replicate-append-replicate n 1 x
