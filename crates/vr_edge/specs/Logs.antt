-- What a log tells.
use Rattle.std.specs.Prelude.{ℕ, ◌≡◌, if◌then◌else◌, Bool, List, [], ◌∷◌, take, Option, Some, None}
use Rattle.vr_edge.specs.Told.{Grows}

-- its entries, where it has every one
abbrev pub told : {X : Type 0} → Bool → List X → Option (List X)
told whole log = if whole then Some log else None

-- so many entries at its front, where it had every one when there were as many
abbrev pub told_to : {X : Type 0} → Bool → ℕ → List X → Option (List X)
told_to whole count log = told whole (take count log)

-- an entry was added; where there was none the log is told no more
abbrev pub IsNoted : {X : Type 0} → Option (List X) → Option (List X) → Option X → Type 0
IsNoted old new (Some entry) = Grows old new (entry ∷ [])
IsNoted old new None = new ≡ None
