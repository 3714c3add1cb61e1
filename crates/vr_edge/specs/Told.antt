-- What an object tells of its content: `Some` of it, or `None` where it doesn't tell it.
use Rattle.std.specs.Io.KnownBytes.{Appends}
use Rattle.std.specs.Prelude.{ℕ, List, Option, Some, None, ◌≡◌, ◌↔◌, ◌⊎◌, ⊤, [], ◌∷◌, ◌++◌}

-- the list grows by these at its end; who once doesn't tell it never tells it again
abbrev pub Grows : {X : Type 0} → Option (List X) → Option (List X) → List X → Type 0
Grows None new more = new ≡ None
Grows (Some xs) None more = ⊤
Grows (Some xs) (Some ys) more = ys ≡ xs ++ more

-- the same, and who told it tells it still
abbrev pub GrowsOn : {X : Type 0} → Option (List X) → Option (List X) → List X → Type 0
GrowsOn None new more = new ≡ None
GrowsOn (Some xs) new more = new ≡ Some (xs ++ more)

-- nothing is there
abbrev pub IsNothing : {X : Type 0} → Option (List X) → Type 0
IsNothing None = ⊤
IsNothing (Some xs) = xs ≡ []

-- the bytes grow by a front of these
abbrev pub AppendsFront : Option (List ℕ) → Option (List ℕ) → List ℕ → Type 0
AppendsFront old new bytes = (front : List ℕ) × (rest : List ℕ) × Appends old new front × (front ++ rest ≡ bytes)

-- a read that went well gave no byte exactly where there was no room for one or, where told, none was left
abbrev pub ZeroAtEnd : Option (List ℕ) → ℕ → ℕ → Type 0
ZeroAtEnd None room count = room ≡ 0 → count ≡ 0
ZeroAtEnd (Some left) room count = (count ≡ 0) ↔ ((room ≡ 0) ⊎ (left ≡ []))

-- the first of the numbers that are left, 0 where there is none
abbrev pub next_number : List ℕ → ℕ
next_number [] = 0
next_number (number ∷ rest) = number

-- what is left after it: the last one stays
abbrev pub numbers_after : List ℕ → List ℕ
numbers_after [] = []
numbers_after (number ∷ []) = number ∷ []
numbers_after (number ∷ next ∷ rest) = next ∷ rest

-- this is the next number
abbrev pub GivesNext : Option (List ℕ) → Option (List ℕ) → ℕ → Type 0
GivesNext None new number = ⊤
GivesNext (Some left) new number = (number ≡ next_number left) × (new ≡ Some (numbers_after left))
