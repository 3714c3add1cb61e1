-- What is read from the front of bytes is what was written there.
use Rattle.std.proofs.Common.{◌≡◌, ℕ, ◌+◌, ◌^◌, ◌<◌, List, [], ◌∷◌, ◌++◌, length, take, drop, get_or, Bool, Some, None, true, false, cond, ltb, unwrap_or, inl, inr, lit<, refl, sym, ap, subst, arith}
use Rattle.std.specs.Int.{Width, byte_len, w16, w32, w64, from_be_bytes}
use Rattle.std.proofs.lemmas.Nat.{be_bytes_2, be_bytes_4, be_bytes_8, from_be_bytes-to_be_bytes_2, from_be_bytes-to_be_bytes_4, from_be_bytes-to_be_bytes_8}
use Rattle.std.proofs.lemmas.List.{take_at, drop_at, take-append-drop, length-append, length-take, length-take-le, get_or-drop, get_or-take, get_or_past}
use Rattle.std.proofs.lemmas.Bool.{le-ltb, ltb-false, cases_lt}
use Rattle.vr_base.specs.Bytes.{IsBytes, bytes16, bytes32, bytes64}
use Rattle.vr_state.specs.Front.{number_from, piece_from, byte_from}

pub same_some : {A : Type 0} (x y : A) → Some x ≡ Some y → x ≡ y
same_some x y e = ap (λ o. unwrap_or o x) e

pub same_pair : {A B : Type 0} (p q : A × B) → Some p ≡ Some q → (p.0 ≡ q.0) × (p.1 ≡ q.1)
same_pair {A} {B} p q e =
    let pairs = same_some p q e in
    (ap (λ (p : A × B). p.0) pairs, ap (λ (p : A × B). p.1) pairs)

-- what a test that refuses let through
pub let_through : {A : Type 0} (b : Bool) (x y : A) → cond b None (Some x) ≡ Some y → (b ≡ false) × (x ≡ y)
let_through true x y e = absurd cc
let_through false x y e = (refl, same_some x y e)

pub IsBytes-drop : (n : ℕ) (bytes : List ℕ) → IsBytes bytes → IsBytes (drop n bytes)
IsBytes-drop n bytes are i = rw (get_or-drop n bytes i 0) (are (n + i))

pub IsBytes-behind : (front rest : List ℕ) → IsBytes (front ++ rest) → IsBytes rest
IsBytes-behind front rest are = subst IsBytes (drop_at front rest (length front) refl) (IsBytes-drop (length front) (front ++ rest) are)

IsBytes-take : (n : ℕ) (bytes : List ℕ) → IsBytes bytes → (i : ℕ) → get_or (take n bytes) i 0 < 256
IsBytes-take n bytes are i = elim (cases_lt i n) [
  | inl below ↦ rw (get_or-take n bytes i 0 below) (are i)
  | inr past ↦ rw (get_or_past (take n bytes) i 0 (omega (arith, length-take n bytes))) (lit< tt)
]

-- a width whose numbers are read back, and whose bytes are written back
pub record IsField (spell : ℕ → List ℕ) (w : Width) (limit : ℕ) : Type 0 where
  pub long : (n : ℕ) → length (spell n) ≡ byte_len w
  pub reads : (n : ℕ) → n < limit → from_be_bytes w (spell n) ≡ n
  pub small : (bs : List ℕ) → length bs ≡ byte_len w → ((i : ℕ) → get_or bs i 0 < 256) → from_be_bytes w bs < limit
  pub writes : (bs : List ℕ) → length bs ≡ byte_len w → ((i : ℕ) → get_or bs i 0 < 256) → spell (from_be_bytes w bs) ≡ bs

pub field16 : IsField bytes16 w16 (2 ^ 16)
unfolding bytes16
field16 = record { long = λ n. refl; reads = from_be_bytes-to_be_bytes_2; small = λ bs long each. omega (arith, each 0, each 1); writes = λ bs long each. be_bytes_2 bs _ long each refl }

pub field32 : IsField bytes32 w32 (2 ^ 32)
unfolding bytes32
field32 = record { long = λ n. refl; reads = from_be_bytes-to_be_bytes_4; small = λ bs long each. omega (arith, each 0, each 1, each 2, each 3); writes = λ bs long each. be_bytes_4 bs _ long each refl }

pub field64 : IsField bytes64 w64 (2 ^ 64)
unfolding bytes64
field64 = record { long = λ n. refl; reads = from_be_bytes-to_be_bytes_8; small = λ bs long each. omega (arith, each 0, each 1, each 2, each 3, each 4, each 5, each 6, each 7); writes = λ bs long each. be_bytes_8 bs _ long each refl }

module _ (spell : ℕ → List ℕ) (w : Width) (limit : ℕ) (field : IsField spell w limit) where
  pub number_reads : (n : ℕ) (rest : List ℕ) → n < limit → number_from w (spell n ++ rest) ≡ Some (n, rest)
  unfolding number_from
  number_reads n rest small =
      let text = spell n in
      let enough : ltb (length (text ++ rest)) (byte_len w) ≡ false = le-ltb _ _ (omega (arith, length-append text rest, field.long n)) in
      rw (enough, take_at text rest (byte_len w) (field.long n), drop_at text rest (byte_len w) (field.long n), field.reads n small) refl

  -- what was read stands at the front
  pub number_only : (bytes : List ℕ) → IsBytes bytes → (n : ℕ) (rest : List ℕ) → number_from w bytes ≡ Some (n, rest) → bytes ≡ spell n ++ rest
  unfolding number_from
  number_only bytes are n rest is =
      let front = take (byte_len w) bytes in
      let through = let_through (ltb (length bytes) (byte_len w)) (from_be_bytes w front, drop (byte_len w) bytes) (n, rest) is in
      let number : from_be_bytes w front ≡ n = ap (λ (p : ℕ × List ℕ). p.0) through.1 in
      let behind : drop (byte_len w) bytes ≡ rest = ap (λ (p : ℕ × List ℕ). p.1) through.1 in
      let long : length front ≡ byte_len w = length-take-le (byte_len w) bytes (ltb-false _ _ through.0) in
      rw (← number, field.writes front long (IsBytes-take (byte_len w) bytes are), ← behind) (sym (take-append-drop (byte_len w) bytes))

  -- a number that was read fits
  pub number_small : (bytes : List ℕ) → IsBytes bytes → (n : ℕ) (rest : List ℕ) → number_from w bytes ≡ Some (n, rest) → n < limit
  unfolding number_from
  number_small bytes are n rest is =
      let front = take (byte_len w) bytes in
      let through = let_through (ltb (length bytes) (byte_len w)) (from_be_bytes w front, drop (byte_len w) bytes) (n, rest) is in
      let number : from_be_bytes w front ≡ n = ap (λ (p : ℕ × List ℕ). p.0) through.1 in
      rw (← number) (field.small front (length-take-le (byte_len w) bytes (ltb-false _ _ through.0)) (IsBytes-take (byte_len w) bytes are))

pub byte_reads : (b : ℕ) (rest : List ℕ) → byte_from (b ∷ rest) ≡ Some (b, rest)
unfolding byte_from
byte_reads b rest = refl

pub byte_only : (bytes : List ℕ) (b : ℕ) (rest : List ℕ) → byte_from bytes ≡ Some (b, rest) → bytes ≡ b ∷ rest
unfolding byte_from
byte_only [] b rest is = absurd cc
byte_only (c ∷ cs) b rest is = let same = same_pair (c, cs) (b, rest) is in cc (same.0, same.1)

pub piece_reads : (n : ℕ) (piece rest : List ℕ) → length piece ≡ n → piece_from n (piece ++ rest) ≡ Some (piece, rest)
unfolding piece_from
piece_reads n piece rest long =
    let enough : ltb (length (piece ++ rest)) n ≡ false = le-ltb _ _ (omega (arith, length-append piece rest)) in
    rw (enough, take_at piece rest n long, drop_at piece rest n long) refl

pub piece_only : (n : ℕ) (bytes piece rest : List ℕ) → piece_from n bytes ≡ Some (piece, rest) → (bytes ≡ piece ++ rest) × (length piece ≡ n)
unfolding piece_from
piece_only n bytes piece rest is =
    let through = let_through (ltb (length bytes) n) (take n bytes, drop n bytes) (piece, rest) is in
    let front : take n bytes ≡ piece = ap (λ (p : List ℕ × List ℕ). p.0) through.1 in
    let behind : drop n bytes ≡ rest = ap (λ (p : List ℕ × List ℕ). p.1) through.1 in
    (rw (← front, ← behind) (sym (take-append-drop n bytes)), rw (← front) (length-take-le n bytes (ltb-false _ _ through.0)))
