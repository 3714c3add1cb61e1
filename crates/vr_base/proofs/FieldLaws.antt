-- Fields at a place: from a field to its bytes and back.
use Rattle.std.proofs.Common.{◌≡◌, ℕ, ◌+◌, ◌^◌, ◌≤◌, ◌<◌, List, [], ◌∷◌, length, take, drop, get_or, refl, sym, ap, ◌∙◌, arith, length-take, length-drop, inl, inr, drop-cons}
use Rattle.std.specs.Int.{w16, w32, w64, from_be_bytes}
use Rattle.std.proofs.lemmas.Bool.{cases_lt}
use Rattle.std.proofs.lemmas.List.{get_or-take, get_or-drop, get_or_past}
use Rattle.std.proofs.lemmas.Nat.{be_bytes_2, be_bytes_4, be_bytes_8, from_be_bytes-to_be_bytes_2, from_be_bytes-to_be_bytes_4, from_be_bytes-to_be_bytes_8}
use Rattle.sha2.proofs.Facts256.{length-sha256}
use Rattle.vr_base.specs.Bytes.{IsBytes, bytes16, bytes32, bytes64, name_of, number, piece}

pub length-name_of : (t : List ℕ) → length (name_of t) ≡ 16
unfolding name_of
length-name_of t = let l = length-sha256 t in rw (length-take, l) refl

pub length-bytes16 : (n : ℕ) → length (bytes16 n) ≡ 2
unfolding bytes16
length-bytes16 n = refl

pub length-bytes32 : (n : ℕ) → length (bytes32 n) ≡ 4
unfolding bytes32
length-bytes32 n = refl

pub length-bytes64 : (n : ℕ) → length (bytes64 n) ≡ 8
unfolding bytes64
length-bytes64 n = refl

-- a number is read as it was written
pub number16_of : (k n : ℕ) (t : List ℕ) → piece k 2 t ≡ bytes16 n → n < 2 ^ 16 → number w16 k t ≡ n
unfolding number piece bytes16
number16_of k n t e l = ap (from_be_bytes w16) e ∙ from_be_bytes-to_be_bytes_2 n l

pub number32_of : (k n : ℕ) (t : List ℕ) → piece k 4 t ≡ bytes32 n → n < 2 ^ 32 → number w32 k t ≡ n
unfolding number piece bytes32
number32_of k n t e l = ap (from_be_bytes w32) e ∙ from_be_bytes-to_be_bytes_4 n l

pub number64_of : (k n : ℕ) (t : List ℕ) → piece k 8 t ≡ bytes64 n → n < 2 ^ 64 → number w64 k t ≡ n
unfolding number piece bytes64
number64_of k n t e l = ap (from_be_bytes w64) e ∙ from_be_bytes-to_be_bytes_8 n l

pub length-piece : (k n : ℕ) (t : List ℕ) → k + n ≤ length t → length (piece k n t) ≡ n
unfolding piece
length-piece k n t l = let a = length-take n (drop k t) in let b = length-drop k t in omega arith

pub get_or-piece : (k n i : ℕ) (t : List ℕ) → i < n → get_or (piece k n t) i 0 ≡ get_or t (k + i) 0
unfolding piece
get_or-piece k n i t l = get_or-take n (drop k t) i 0 l ∙ get_or-drop k t i 0

past : (k n i : ℕ) (t : List ℕ) → n ≤ i → get_or (piece k n t) i 0 < 256
unfolding piece
past k n i t g = rw (get_or_past (take n (drop k t)) i 0 (let l = length-take n (drop k t) in omega arith)) (omega arith)

pub IsBytes-piece : (k n : ℕ) (t : List ℕ) → IsBytes t → IsBytes (piece k n t)
IsBytes-piece k n t h i =
    elim (cases_lt i n) [
      | inl l ↦ rw (get_or-piece k n i t l) (h (k + i))
      | inr g ↦ past k n i t g
    ]

-- a number that was read is written as it stood
pub number16_back : (k : ℕ) (t : List ℕ) → IsBytes t → k + 2 ≤ length t → (bytes16 (number w16 k t) ≡ piece k 2 t) × (number w16 k t < 2 ^ 16)
unfolding bytes16 number piece
number16_back k t h l =
    let p = take 2 (drop k t) in
    let len : length p ≡ 2 = length-piece k 2 t l in
    let f = IsBytes-piece k 2 t h in
    (be_bytes_2 p (from_be_bytes w16 p) len f refl, omega (arith, f 0, f 1))

pub number32_back : (k : ℕ) (t : List ℕ) → IsBytes t → k + 4 ≤ length t → (bytes32 (number w32 k t) ≡ piece k 4 t) × (number w32 k t < 2 ^ 32)
unfolding bytes32 number piece
number32_back k t h l =
    let p = take 4 (drop k t) in
    let len : length p ≡ 4 = length-piece k 4 t l in
    let f = IsBytes-piece k 4 t h in
    (be_bytes_4 p (from_be_bytes w32 p) len f refl, omega (arith, f 0, f 1, f 2, f 3))

pub number64_back : (k : ℕ) (t : List ℕ) → IsBytes t → k + 8 ≤ length t → (bytes64 (number w64 k t) ≡ piece k 8 t) × (number w64 k t < 2 ^ 64)
unfolding bytes64 number piece
number64_back k t h l =
    let p = take 8 (drop k t) in
    let len : length p ≡ 8 = length-piece k 8 t l in
    let f = IsBytes-piece k 8 t h in
    (be_bytes_8 p (from_be_bytes w64 p) len f refl, omega (arith, f 0, f 1, f 2, f 3, f 4, f 5, f 6, f 7))

pub byte_of : (k x : ℕ) (t : List ℕ) → piece k 1 t ≡ x ∷ [] → get_or t k 0 ≡ x
byte_of k x t e = let z : k + 0 ≡ k = omega arith in ap (λ n. get_or t n 0) (sym z) ∙ (sym (get_or-piece k 1 0 t (omega arith)) ∙ ap (λ p. get_or p 0 0) e)

pub byte_back : (k : ℕ) (t : List ℕ) → k < length t → get_or t k 0 ∷ [] ≡ piece k 1 t
unfolding piece
byte_back k t l = rw (drop-cons t k 0) refl

pub IsBytes-drop : (k : ℕ) (t : List ℕ) → IsBytes t → IsBytes (drop k t)
IsBytes-drop k t h i = rw (get_or-drop k t i 0) (h (k + i))
