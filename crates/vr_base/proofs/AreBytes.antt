-- What consists of bytes.
use Rattle.std.proofs.Common.{ℕ, zero, suc, ◌<◌, ◌/◌, ◌^◌, List, [], ◌∷◌, ◌++◌, take, arith}
use Rattle.std.specs.Prelude.{⊤, replicate, slice_index}
use Rattle.std.specs.Int.{byte_at, bytes_high_first}
use Rattle.std.proofs.lemmas.Nat.{mod_below}
use Rattle.sha2.specs.Sha256.{digest_bytes, sha256}
use Rattle.vr_base.specs.Bytes.{IsBytes, bytes16, bytes32, bytes64, joined, name_of, piece}
use Rattle.vr_base.proofs.FieldLaws.{IsBytes-piece}

pub IsBytes-none : IsBytes []
IsBytes-none i = omega arith

pub IsBytes-one : (x : ℕ) (xs : List ℕ) → x < 256 → IsBytes xs → IsBytes (x ∷ xs)
IsBytes-one x xs small are zero = small
IsBytes-one x xs small are (suc i) = are i

pub IsBytes-append : (xs ys : List ℕ) → IsBytes xs → IsBytes ys → IsBytes (xs ++ ys)
IsBytes-append [] ys f g i = g i
IsBytes-append (x ∷ xs) ys f g zero = f 0
IsBytes-append (x ∷ xs) ys f g (suc i) = IsBytes-append xs ys (λ j. f (suc j)) g i

pub IsBytes-take : (n : ℕ) (bytes : List ℕ) → IsBytes bytes → IsBytes (take n bytes)
unfolding piece
IsBytes-take n bytes are = IsBytes-piece 0 n bytes are

pub IsBytes-zeros : (n : ℕ) → IsBytes (replicate n 0)
IsBytes-zeros zero i = omega arith
IsBytes-zeros (suc n) zero = omega arith
IsBytes-zeros (suc n) (suc i) = IsBytes-zeros n i

byte_small : (k n : ℕ) → byte_at k n < 256
byte_small zero n = mod_below n 256 (omega arith)
byte_small (suc k) n = mod_below (n / 256 ^ suc k) 256 (omega arith)

high_first : (k n : ℕ) → IsBytes (bytes_high_first k n)
high_first zero n i = omega arith
high_first (suc k) n zero = byte_small k n
high_first (suc k) n (suc i) = high_first k n i

pub IsBytes-bytes16 : (n : ℕ) → IsBytes (bytes16 n)
unfolding bytes16
IsBytes-bytes16 n = high_first 2 n

pub IsBytes-bytes32 : (n : ℕ) → IsBytes (bytes32 n)
unfolding bytes32
IsBytes-bytes32 n = high_first 4 n

pub IsBytes-bytes64 : (n : ℕ) → IsBytes (bytes64 n)
unfolding bytes64
IsBytes-bytes64 n = high_first 8 n

IsBytes-digest : (h : List ℕ) (n : ℕ) → IsBytes (digest_bytes h n)
unfolding digest_bytes
IsBytes-digest h zero = IsBytes-none
IsBytes-digest h (suc n) = IsBytes-append (digest_bytes h n) (bytes_high_first 4 (slice_index h n)) (IsBytes-digest h n) (high_first 4 (slice_index h n))

-- a name consists of bytes
pub IsBytes-name_of : (t : List ℕ) → IsBytes (name_of t)
unfolding name_of sha256
IsBytes-name_of t = IsBytes-take 16 _ (IsBytes-digest _ 8)

abbrev pub AllBytes : List (List ℕ) → Type 0
AllBytes [] = ⊤
AllBytes (p ∷ ps) = IsBytes p × AllBytes ps

pub IsBytes-joined : (ps : List (List ℕ)) → AllBytes ps → IsBytes (joined ps)
IsBytes-joined [] a = IsBytes-none
IsBytes-joined (p ∷ ps) a = IsBytes-append p (joined ps) a.0 (IsBytes-joined ps a.1)
