-- Lists whose room is made.
use Rattle.std.specs.Global.{Global}
use Rattle.std.specs.List.{list_all}
use Rattle.std.specs.Prelude.{ℕ, List, Bool, Vec, nat_le, vec_capacity}

-- each has room for so many items
abbrev pub are_made : {T : Type 0} → ℕ → List (Vec T Global) → Bool
are_made most lists = list_all (λ list. nat_le most (vec_capacity list)) lists
