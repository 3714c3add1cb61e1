-- What a spawner tells of its calls.
use Rattle.std.specs.Prelude.{ℕ, ◌+◌, ◌≡◌, List, Some, None, true, false, Result, Ok, Err, IfOk, OnOk, OnErr}
use Rattle.vr_spawn.specs.declared.spawner.SpawnCall.{SpawnCall}
use Rattle.vr_spawn.specs.declared.spawner.SpawnCall.TheVariants.{Start, Stop}

-- the entry of one start
abbrev pub started_by : {E : Type 0} → List (List ℕ) → Result ℕ E → SpawnCall
started_by words (Ok id) = Start (record { words = words; id = Some id })
started_by words (Err e) = Start (record { words = words; id = None })

-- the entry of one stop
abbrev pub stopped_by : {E : Type 0} → ℕ → Result (Unit {0}) E → SpawnCall
stopped_by id (Ok done) = Stop (record { id = id; is_done = true })
stopped_by id (Err e) = Stop (record { id = id; is_done = false })

-- a start that went well gives the number of those before it, and is one of them from then on
pub record IsNumbered {E : Type 0} (before now : ℕ) (result : Result ℕ E) : Type 0 where
  pub number : IfOk result (λ id. id ≡ before)
  pub counted : OnOk result (now ≡ before + 1)
  pub failed : OnErr result (now ≡ before)
