-- The texts of keys and values.
use Rattle.std.specs.Prelude.{ℕ, List, Bool, ◌&&◌, nat_le, length, Option, Some, None, if◌then◌else◌}
use Rattle.std.specs.List.{list_all}

-- a byte from 33 to 126
abbrev pub is_printable : ℕ → Bool
is_printable byte = nat_le 33 byte && nat_le byte 126

-- from 1 to so many bytes, each from 33 to 126
unfoldable pub is_text : ℕ → List ℕ → Bool
is_text limit bytes = nat_le 1 (length bytes) && nat_le (length bytes) limit && list_all is_printable bytes

-- the text, None where the bytes are none
abbrev pub text_of : ℕ → List ℕ → Option (List ℕ)
text_of limit bytes = if is_text limit bytes then Some bytes else None
