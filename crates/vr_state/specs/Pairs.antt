-- A key with its value, and the text of a map of keys to values.
use Rattle.std.specs.Prelude.{ℕ, ◌+◌, ◌*◌, List, ◌∷◌, ◌++◌, length, Option, Some, None, IsTrue, if◌then◌else◌, Result}
use Rattle.std.specs.Option.{option_and_then}
use Rattle.std.specs.Int.{w16}
use Rattle.vr_base.specs.Bytes.{bytes16}
use Rattle.vr_base.specs.Versions.{value_limit}
use Rattle.vr_header.specs.Text.{is_text}
use Rattle.vr_state.specs.declared.fault.StateFault.{StateFault}
use Rattle.vr_state.specs.Finite.{byte_order}
use Rattle.vr_state.specs.Front.{byte_from, number_from, piece_from}
use Rattle.vr_state.specs.Table.{table_text, decoded}

-- a key of 1 to 64 bytes and a value of either version, of 1 to 3,000 bytes
pub record Fits (pair : List ℕ × List ℕ) : Type 0 where
  pub key : IsTrue (is_text 64 pair.0)
  pub value : IsTrue (is_text (value_limit 2) pair.1)

-- the key's length in one byte, the value's in two, the key, the value
unfoldable pub pair_text : List ℕ × List ℕ → List ℕ
pair_text pair = length pair.0 ∷ (bytes16 (length pair.1) ++ (pair.0 ++ pair.1))

-- the most bytes of such a text, of a value of a version
abbrev pub pair_bytes : ℕ → ℕ
pair_bytes v = 3 + 64 + value_limit v

-- the pieces of a pair that the bytes begin with, and the bytes after them
unfoldable pub pieces_from : List ℕ → Option ((List ℕ × List ℕ) × List ℕ)
pieces_from bytes =
    option_and_then (λ a. option_and_then (λ b. option_and_then (λ key. option_and_then (λ value. Some ((key.0, value.0), value.1))
    (piece_from b.0 key.1)) (piece_from a.0 b.1)) (number_from w16 a.1)) (byte_from bytes)

-- the pair that the bytes begin with, and the bytes after it
unfoldable pub pair_from : List ℕ → Option ((List ℕ × List ℕ) × List ℕ)
pair_from bytes =
    option_and_then (λ p. if is_text 64 p.0.0 then (if is_text (value_limit 2) p.0.1 then Some p else None) else None) (pieces_from bytes)

-- the text of a machine: how many keys, and each with its value, the keys in byte order
abbrev pub kv_text : List (List ℕ × List ℕ) → List ℕ
kv_text m = table_text pair_text m

-- the most bytes of a machine's text
abbrev pub kv_bytes : ℕ → ℕ
kv_bytes v = 2 + 128 * pair_bytes v

-- the machine of a text, or the first fault
abbrev pub kv_decoded : List ℕ → Result (List (List ℕ × List ℕ)) StateFault
kv_decoded bytes = decoded byte_order pair_from 128 bytes
