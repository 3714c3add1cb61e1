-- Bytes that others begin with.
use Rattle.std.specs.Prelude.{ℕ, ◌≡◌, List, length, take}

-- the first bytes of these
unfoldable pub IsFront : List ℕ → List ℕ → Type 0
IsFront front bytes = take (length front) bytes ≡ front
