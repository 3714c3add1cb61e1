-- A replica as its member runs it.
use Rattle.std.specs.Prelude.{Bool, Result, Ok, Err}
use Rattle.vr_rules.specs.Replica.{Replica}

pub record Running : Type 0 where
  -- what it has in memory
  pub memory : Replica
  -- it takes steps
  pub running : Bool

-- what the replica has in memory, if there is one
abbrev pub memory_of : {E : Type 0} → Result Running E → Result Replica E
memory_of (Ok r) = Ok r.memory
memory_of (Err e) = Err e
