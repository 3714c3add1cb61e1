-- Words for tables and lists.
-- A table is a function on numbers (of members, of views, of slots, of the log's numbers); it changes at one place at a time.
-- What was sent, made or chosen is a list, the newest first.
use Rattle.std.specs.Prelude.{ℕ, cond, ◌==◌, ◌≡◌, List, [], ◌∷◌, Option, None, Some, ◌⊎◌}

-- the table with x at r
unfoldable pub update : {X : Type 0} → (ℕ → X) → ℕ → X → ℕ → X
update f r x j = cond (j == r) x (f j)

-- x is in the list
abbrev pub In : {X : Type 0} → X → List X → Type 0
In x [] = ⊥
In x (y ∷ ys) = (x ≡ y) ⊎ In x ys

-- it holds of what is there, if anything is
abbrev pub Each : {X : Type 0} → (X → Type 0) → Option X → Type 0
Each P None = Unit {0}
Each P (Some x) = P x
