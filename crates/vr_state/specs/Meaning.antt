-- What an operation does, by look-ups alone.
use Rattle.std.specs.Prelude.{◌≡◌, ◌≢◌, ℕ, ◌⊎◌, List, length, Option, Some, None, MatchOption}
use Rattle.std.specs.FinMap.Entries.{find}
use Rattle.vr_header.specs.declared.operation.Operation.{Operation}
use Rattle.vr_header.specs.declared.operation.Operation.TheVariants.{Register, Put, Get, Delete}
use Rattle.vr_header.specs.declared.outcome.Outcome.{Outcome}
use Rattle.vr_header.specs.declared.outcome.Outcome.TheVariants as outcome
use Rattle.vr_state.specs.Finite.{byte_order}
use Rattle.vr_state.specs.Kv.{Map}

abbrev pub value_of : Map → List ℕ → Option (List ℕ)
value_of m key = find byte_order key m

-- the key has this value in the new map, and each other key the one that it had
pub record Sets (old new : Map) (key : List ℕ) (value : Option (List ℕ)) : Type 0 where
  pub this : value_of new key ≡ value
  pub others : (q : List ℕ) → q ≢ key → value_of new q ≡ value_of old q

-- a put refused because 128 other keys are there
pub record IsFull (old new : Map) (key : List ℕ) : Type 0 where
  pub same : new ≡ old
  pub absent : value_of old key ≡ None
  pub full : length old ≡ 128

abbrev pub Means : Map → Operation → Outcome → Map → Type 0
Means old Register o new = (o ≡ outcome.Session) × (new ≡ old)
Means old (Put key value) o new = ((o ≡ outcome.Ok) × Sets old new key (Some value)) ⊎ ((o ≡ outcome.Full) × IsFull old new key)
Means old (Get key) o new = MatchOption (value_of old key) (o ≡ outcome.Absent) (λ value. o ≡ outcome.Value value) × (new ≡ old)
Means old (Delete key) o new = MatchOption (value_of old key) (o ≡ outcome.Absent) (λ value. o ≡ outcome.Ok) × Sets old new key None
