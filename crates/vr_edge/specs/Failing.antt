-- How a link fails at which a run ends.
use Rattle.std.specs.Prelude.{ℕ, ◌⊎◌, List, [], ◌∷◌, ◌++◌, Option, false}
use Rattle.vr_base.specs.Causes.{Rose}
use Rattle.vr_edge.specs.Attaching.{attach_of}
use Rattle.vr_edge.specs.Datagrams.{Arrival, Failed}
use Rattle.vr_edge.specs.Told.{Grows}
use Rattle.vr_edge.specs.declared.attach.Attach.{Attach}

-- the last attach failed
abbrev pub EndsUnattached : Option (List Attach) → Option (List Attach) → Type 0
EndsUnattached attached attached' =
    (before : List Attach) × (own : List ℕ) × (peers : List (List ℕ)) × Grows attached attached' (before ++ attach_of own peers false ∷ [])

-- the last receive failed
abbrev pub EndsFailed : Option (List Arrival) → Option (List Arrival) → Type 0
EndsFailed got got' = (before : List Arrival) × Grows got got' (before ++ Failed ∷ [])

-- its count rose, and where it tells, the last attach failed or the last receive
pub record LinkFailure (before now : ℕ) (attached attached' : Option (List Attach)) (got got' : Option (List Arrival)) : Type 0 where
  pub rose : Rose before now
  pub last : EndsUnattached attached attached' ⊎ EndsFailed got got'
