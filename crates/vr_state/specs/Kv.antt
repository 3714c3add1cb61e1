-- The machine: a finite map of keys to values, and what each operation makes of it.
use Rattle.std.specs.Prelude.{ℕ, ◌≤◌, List, [], length, is_some, nat_lt, if◌then◌else◌, fold}
use Rattle.std.specs.List.{AllByRecursion}
use Rattle.std.specs.Option.{option_map_or}
use Rattle.std.specs.FinMap.Entries.{find, put}
use Rattle.vr_header.specs.declared.operation.Operation.{Operation}
use Rattle.vr_header.specs.declared.operation.Operation.TheVariants.{Register, Put, Get, Delete}
use Rattle.vr_header.specs.declared.outcome.Outcome.{Outcome}
use Rattle.vr_header.specs.declared.outcome.Outcome.TheVariants as outcome
use Rattle.vr_state.specs.Finite.{byte_order, without, IsMap}
use Rattle.vr_state.specs.Pairs.{Fits}

-- the keys with their values, the keys in byte order
abbrev pub Map : Type 0
Map = List (List ℕ × List ℕ)

-- the machine after an operation, and what it answers
pub record Answered : Type 0 where
  pub machine : Map
  pub outcome : Outcome

abbrev pub answers : Map → Outcome → Answered
answers m o = record { machine = m; outcome = o }

-- a key that is there takes the new value, and a new key is put where fewer than 128 are there
unfoldable pub putting : Map → List ℕ → List ℕ → Answered
putting m key value =
    if is_some (find byte_order key m) then answers (put byte_order key value m) outcome.Ok
    else (if nat_lt (length m) 128 then answers (put byte_order key value m) outcome.Ok
    else answers m outcome.Full)

unfoldable pub getting : Map → List ℕ → Answered
getting m key = answers m (option_map_or outcome.Value (find byte_order key m) outcome.Absent)

unfoldable pub deleting : Map → List ℕ → Answered
deleting m key =
    if is_some (find byte_order key m) then answers (without byte_order key m) outcome.Ok
    else answers m outcome.Absent

-- a register changes no key
unfoldable pub applied : Map → Operation → Answered
applied m Register = answers m outcome.Session
applied m (Put key value) = putting m key value
applied m (Get key) = getting m key
applied m (Delete key) = deleting m key

-- the machine after these operations, from the empty one
abbrev pub machine_after : List Operation → Map
machine_after operations = fold (λ m operation. (applied m operation).machine) [] operations

-- what is true of each machine
pub record IsKv (m : Map) : Type 0 where
  pub is_map : IsMap byte_order m
  pub fit : AllByRecursion Fits m
  pub few : length m ≤ 128
