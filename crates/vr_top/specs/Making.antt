-- What a maker tells of its calls.
use Rattle.std.specs.Global.{Global}
use Rattle.std.specs.Prelude.{ℕ, Bool, List, [], ◌∷◌, Option, Result, Ok, Err, String, Vec}
use Rattle.std.specs.declared.alloc.AllocError.{AllocError}
use Rattle.vr_edge.specs.Attaching.{texts_of}
use Rattle.vr_edge.specs.Told.{Grows}
use Rattle.vr_top.specs.declared.program.Untold.{Untold}

-- a call of a maker, with what it gave, or with what it took back
pub data Making (O T : Type 0) : Type 0 where
  Ground : Bool → Making O T
  Words : Result (List (List ℕ)) Untold → Making O T
  Path : Result T Untold → Making O T
  Made : Option T → Result O AllocError → Making O T
  TakenBack : O → Making O T

-- the words as they are told
abbrev pub texts_told : Result (Vec (String Global) Global) Untold → Result (List (List ℕ)) Untold
texts_told (Ok words) = Ok (texts_of words.items)
texts_told (Err why) = Err why

-- a maker was called so, where it tells it
abbrev pub Gives : {M X : Type 0} → (M → Option (List X)) → M → M → X → Type 0
Gives made maker maker' call = Grows (made maker) (made maker') (call ∷ [])
