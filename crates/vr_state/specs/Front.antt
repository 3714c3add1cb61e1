-- What bytes begin with.
use Rattle.std.specs.Prelude.{ℕ, List, [], ◌∷◌, length, take, drop, Option, Some, None, nat_lt, if◌then◌else◌}
use Rattle.std.specs.Int.{Width, byte_len, from_be_bytes}

-- the first n bytes, and those after them
unfoldable pub piece_from : ℕ → List ℕ → Option (List ℕ × List ℕ)
piece_from n bytes = if nat_lt (length bytes) n then None else Some (take n bytes, drop n bytes)

-- the first byte, and those after it
unfoldable pub byte_from : List ℕ → Option (ℕ × List ℕ)
byte_from [] = None
byte_from (b ∷ rest) = Some (b, rest)

-- the number at the front, and the bytes after it
unfoldable pub number_from : Width → List ℕ → Option (ℕ × List ℕ)
number_from w bytes =
    if nat_lt (length bytes) (byte_len w) then None
    else Some (from_be_bytes w (take (byte_len w) bytes), drop (byte_len w) bytes)
