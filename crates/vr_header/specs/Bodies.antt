-- The bytes of operations and outcomes.
use Rattle.std.specs.Prelude.{ℕ, ◌==◌, ◌&&◌, nat_lt, IsTrue, ⊤, if◌then◌else◌, List, [], ◌∷◌, ◌++◌, length, take, drop, Option, Some, None}
use Rattle.std.specs.Option.{option_map}
use Rattle.std.specs.Int.{from_be_bytes, w16}
use Rattle.vr_base.specs.Bytes.{bytes16}
use Rattle.vr_base.specs.Versions.{value_limit}
use Rattle.vr_header.specs.declared.operation.Operation.{Operation}
use Rattle.vr_header.specs.declared.operation.Operation.TheVariants.{Register, Put, Get, Delete}
use Rattle.vr_header.specs.declared.outcome.Outcome.{Outcome}
use Rattle.vr_header.specs.declared.outcome.Outcome.TheVariants as outcome
use Rattle.vr_header.specs.Text.{is_text, text_of}

-- a number of the kind, a key after its length of one byte, a value after its length of two bytes
unfoldable pub operation_bytes : Operation → List ℕ
operation_bytes Register = 1 ∷ []
operation_bytes (Put key value) = (2 ∷ length key ∷ bytes16 (length value)) ++ (key ++ value)
operation_bytes (Get key) = 3 ∷ length key ∷ key
operation_bytes (Delete key) = 4 ∷ length key ∷ key

unfoldable pub outcome_bytes : Outcome → List ℕ
outcome_bytes outcome.Session = 1 ∷ []
outcome_bytes outcome.Ok = 2 ∷ []
outcome_bytes outcome.Full = 3 ∷ []
outcome_bytes outcome.Absent = 4 ∷ []
outcome_bytes (outcome.Value value) = (5 ∷ bytes16 (length value)) ++ value

-- the values that an operation of a version has: a key has 1 to 64 bytes and a value 1 to 1,024 or 3,000, each byte from 33 to 126
abbrev pub IsOperation : ℕ → Operation → Type 0
IsOperation version Register = ⊤
IsOperation version (Put key value) = IsTrue (is_text 64 key) × IsTrue (is_text (value_limit version) value)
IsOperation version (Get key) = IsTrue (is_text 64 key)
IsOperation version (Delete key) = IsTrue (is_text 64 key)

abbrev pub IsOutcome : ℕ → Outcome → Type 0
IsOutcome version outcome.Session = ⊤
IsOutcome version outcome.Ok = ⊤
IsOutcome version outcome.Full = ⊤
IsOutcome version outcome.Absent = ⊤
IsOutcome version (outcome.Value value) = IsTrue (is_text (value_limit version) value)

-- a key after its length
unfoldable pub key_of : List ℕ → Option (List ℕ)
key_of [] = None
key_of (n ∷ key) = if length key == n then text_of 64 key else None

-- a value of at most so many bytes after its length
unfoldable pub value_of : ℕ → List ℕ → Option (List ℕ)
value_of limit [] = None
value_of limit (high ∷ []) = None
value_of limit (high ∷ low ∷ value) = if length value == from_be_bytes w16 (high ∷ low ∷ []) then text_of limit value else None

-- a key and a value after both lengths
unfoldable pub pair_of : ℕ → List ℕ → Option Operation
pair_of limit [] = None
pair_of limit (n ∷ []) = None
pair_of limit (n ∷ high ∷ []) = None
pair_of limit (n ∷ high ∷ low ∷ texts) =
    if nat_lt (length texts) n then None
    else (if (length (drop n texts) == from_be_bytes w16 (high ∷ low ∷ [])) && (is_text 64 (take n texts) && is_text limit (drop n texts))
    then Some (Put (take n texts) (drop n texts)) else None)

-- the operation of this version that these bytes are, None where they are none
unfoldable pub operation_of : ℕ → List ℕ → Option Operation
operation_of version [] = None
operation_of version (kind ∷ rest) =
    if kind == 1 then (if length rest == 0 then Some Register else None)
    else (if kind == 2 then pair_of (value_limit version) rest
    else (if kind == 3 then option_map Get (key_of rest)
    else (if kind == 4 then option_map Delete (key_of rest) else None)))

-- the outcome of this version that these bytes are, None where they are none
unfoldable pub outcome_of : ℕ → List ℕ → Option Outcome
outcome_of version [] = None
outcome_of version (kind ∷ rest) =
    if kind == 5 then option_map outcome.Value (value_of (value_limit version) rest)
    else (if length rest == 0
    then (if kind == 1 then Some outcome.Session
    else (if kind == 2 then Some outcome.Ok
    else (if kind == 3 then Some outcome.Full
    else (if kind == 4 then Some outcome.Absent else None))))
    else None)
