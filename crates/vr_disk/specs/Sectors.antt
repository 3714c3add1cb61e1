-- Sectors one after the other, read and written together.
use Rattle.std.specs.Prelude.{ℕ, zero, suc, ◌+◌, Bool, false, nat_eq, List, [], ◌∷◌, ◌++◌, drop, Option, None, Some}
use Rattle.std.specs.Option.{option_map}
use Rattle.std.specs.Cmp.Lexicographic.{pointwise}
use Rattle.vr_base.specs.Bytes.{piece}
use Rattle.vr_disk.specs.DiskState.{Call, Write, Face, reads}

abbrev pub behind : Option (List ℕ) → Option (List ℕ) → Option (List ℕ)
behind None rest = None
behind (Some bytes) rest = option_map (λ r. bytes ++ r) rest

-- what so many sectors from one on read as together, None where one of them can't be read
unfoldable pub together : ℕ → ℕ → Face → Option (List ℕ)
together i zero f = Some []
together i (suc n) f = behind (reads f i) (together (i + 1) n f)

-- a reading has these bytes, byte for byte
abbrev pub has : List ℕ → Option (List ℕ) → Bool
has bytes None = false
has bytes (Some other) = pointwise nat_eq other bytes

-- the calls that write so many sectors from one on, with these bytes
unfoldable pub writes : ℕ → ℕ → List ℕ → List Call
writes i zero bytes = []
writes i (suc n) bytes = Write i (piece 0 512 bytes) ∷ writes (i + 1) n (drop 512 bytes)
