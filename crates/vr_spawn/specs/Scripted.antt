-- What the next call of a spawner in memory does.
use Rattle.std.specs.Prelude.{ℕ, ◌^◌, ◌||◌, nat_le, if◌then◌else◌, Bool, Result, Ok, Err}
use Rattle.vr_edge.specs.Counts.{is_listed}
use Rattle.vr_spawn.specs.declared.mem_spawner.MemSpawner.{MemSpawner}
use Rattle.vr_spawn.specs.declared.spawner.SpawnFailed.{SpawnFailed}

-- the next start fails: it is listed, or there are no numbers left
abbrev pub start_fails : MemSpawner → Bool
start_fails s = is_listed s.failing_starts.items s.starts || nat_le (2 ^ 32) s.started

abbrev pub starts : MemSpawner → Result ℕ SpawnFailed
starts s = if start_fails s then Err (record {}) else Ok s.started

-- the next stop fails
abbrev pub stop_fails : MemSpawner → Bool
stop_fails s = is_listed s.failing_stops.items s.stops

abbrev pub stops : MemSpawner → Result (Unit {0}) SpawnFailed
stops s = if stop_fails s then Err (record {}) else Ok (record {})
