-- What a link over streams tells of its attaches.
use Rattle.std.specs.Prelude.{ℕ, ◌<◌, ◌≤◌, ◌≡◌, ◌⊎◌, Bool, true, false, List, [], ◌∷◌, Option, None, Result}
use Rattle.vr_edge.specs.Attaching.{attached_by}
use Rattle.vr_edge.specs.Told.{Grows}
use Rattle.vr_edge.specs.declared.attach.Attach.{Attach}

-- those of its streams, until it refused one that never came to them
abbrev pub attached_told : Bool → Option (List Attach) → Option (List Attach)
attached_told false attaches = attaches
attached_told true attaches = None

-- The streams are attached, once, with the addresses that the link was given, whether that goes well or not
pub record PassesOn {E : Type 0} (most count : ℕ) (own : List ℕ) (peers : List (List ℕ)) (over over' : Bool) (old new : Option (List Attach)) (result : Result (Unit {0}) E) : Type 0 where
  pub few : count ≤ most
  pub kept : over' ≡ over
  pub attached : Grows old new (attached_by own peers result ∷ [])

-- the link refuses it: more peers than it was made for
pub record Refuses (most count : ℕ) (over' : Bool) (old new : Option (List Attach)) : Type 0 where
  pub many : most < count
  pub over : over' ≡ true
  pub same : new ≡ old

-- an attach of a link that was made for so many peers at most, with so many
abbrev pub IsAttach : {E : Type 0} → ℕ → ℕ → List ℕ → List (List ℕ) → Bool → Bool → Option (List Attach) → Option (List Attach) → Result (Unit {0}) E → Type 0
IsAttach most count own peers over over' old new result = PassesOn most count own peers over over' old new result ⊎ Refuses most count over' old new
