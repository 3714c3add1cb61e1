-- Names, fields and numbers as bytes.
use Rattle.std.specs.Prelude.{ℕ, ◌≡◌, ◌<◌, Bool, ◌==◌, List, [], ◌∷◌, ◌++◌, length, take, drop, slice_index}
use Rattle.std.specs.List.{list_all}
use Rattle.std.specs.Int.{Width, byte_len, from_be_bytes, to_be_bytes, w16, w32, w64}
use Rattle.sha2.specs.Sha256.{sha256}

-- the first 16 bytes of SHA-256
unfoldable pub name_of : List ℕ → List ℕ
name_of bytes = take 16 (sha256 bytes)

-- n bytes from a place on
unfoldable pub piece : ℕ → ℕ → List ℕ → List ℕ
piece at n bytes = take n (drop at bytes)

-- the number at a place, the highest byte first
unfoldable pub number : Width → ℕ → List ℕ → ℕ
number w at bytes = from_be_bytes w (take (byte_len w) (drop at bytes))

-- a number's bytes, the highest first
unfoldable pub bytes16 : ℕ → List ℕ
bytes16 n = to_be_bytes w16 n

unfoldable pub bytes32 : ℕ → List ℕ
bytes32 n = to_be_bytes w32 n

unfoldable pub bytes64 : ℕ → List ℕ
bytes64 n = to_be_bytes w64 n

-- pieces one after another
abbrev pub joined : List (List ℕ) → List ℕ
joined [] = []
joined (p ∷ ps) = p ++ joined ps

-- each is a byte's value
abbrev pub IsBytes : List ℕ → Type 0
IsBytes bytes = (i : ℕ) → slice_index bytes i < 256

-- each is 0
abbrev pub is_zeros : List ℕ → Bool
is_zeros bytes = list_all (λ b. b == 0) bytes

-- what was there still begins it
abbrev pub KeepsFront : List ℕ → List ℕ → Type 0
KeepsFront before now = take (length before) now ≡ before
