-- What is taken for granted of names: of the bytes that are hashed in whatever a theorem speaks of, no two that differ have one
-- name.
use Rattle.std.specs.Prelude.{ℕ, ◌≡◌, List}
use Rattle.vr_base.specs.Bytes.{name_of}

abbrev pub NoCollision : (List ℕ → Type 0) → Type 0
NoCollision IsHashed = (a b : List ℕ) → IsHashed a → IsHashed b → name_of a ≡ name_of b → a ≡ b
