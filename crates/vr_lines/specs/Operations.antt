-- Operations, word by word.
use Rattle.std.specs.Prelude.{ℕ, List, [], ◌∷◌, Option, Some, None, option_and_then, if◌then◌else◌, codes}
use Rattle.std.specs.Option.{option_map}
use Rattle.std.specs.Str.{bytes_eq}
use Rattle.vr_base.specs.Versions.{value_limit}
use Rattle.vr_header.specs.declared.operation.Operation.{Operation}
use Rattle.vr_header.specs.declared.operation.Operation.TheVariants.{Register, Put, Get, Delete}
use Rattle.vr_header.specs.Text.{text_of}
use Rattle.vr_lines.specs.Words.{only_word}

-- a key of 1 to 64 bytes and a value of 1 to 1,024, in version 2 to 3,000, each byte from 33 to 126
abbrev pub pair_of : ℕ → List ℕ → List ℕ → Option Operation
pair_of version key value = option_and_then (λ k. option_map (Put k) (text_of (value_limit version) value)) (text_of 64 key)

-- KEY and VALUE after `put`
abbrev pub put_words : ℕ → List (List ℕ) → Option Operation
put_words version (key ∷ value ∷ []) = pair_of version key value
put_words version _ = None

-- KEY alone after `get` and `del`
abbrev pub key_word : List (List ℕ) → Option (List ℕ)
key_word words = option_and_then (text_of 64) (only_word words)

abbrev pub register_words : List (List ℕ) → Option Operation
register_words [] = Some Register
register_words _ = None

-- an operation by its first word and those after it
abbrev pub operation_behind : ℕ → List ℕ → List (List ℕ) → Option Operation
operation_behind version word words =
    if bytes_eq word (codes "register") then register_words words
    else (if bytes_eq word (codes "put") then put_words version words
    else (if bytes_eq word (codes "get") then option_map Get (key_word words)
    else (if bytes_eq word (codes "del") then option_map Delete (key_word words)
    else None)))

-- the operation of this version that these words spell
unfoldable pub operation_words : ℕ → List (List ℕ) → Option Operation
operation_words version [] = None
operation_words version (word ∷ words) = operation_behind version word words
