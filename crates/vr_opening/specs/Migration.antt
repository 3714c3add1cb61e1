-- The file of a member becomes one of version 2.
use Rattle.std.specs.Prelude.{◌≡◌, ◌≢◌, ◌⊎◌, ◌==◌, ◌++◌, true, false, if◌then◌else◌, List, [], Option, Some, IfSome, Result, Ok, Err}
use Rattle.vr_base.specs.declared.table.Config.{Config}
use Rattle.vr_disk.specs.DiskState.{Call, Disk, Face, RunsFrom, after_all}
use Rattle.vr_disk.specs.declared.fault.Halt.{Halt}
use Rattle.vr_disk.specs.declared.fault.Halt.TheVariants.{DiskFault, NoMemory}
use Rattle.vr_super.specs.Calls.{mend_calls, write_calls}
use Rattle.vr_super.specs.Copies.{SuperValue}
use Rattle.vr_rules.specs.Migrating.{migrated, migration_calls, slot_calls}
use Rattle.vr_opening.specs.Recovering.{IsOther, LeavesAlone, LosesCopies, StopsMending, config_of, opens, opens_as}
use Rattle.vr_opening.specs.declared.reopen.NoValue.{NoValue}
use Rattle.vr_opening.specs.declared.reopen.NoValue.TheVariants as none
use Rattle.vr_opening.specs.declared.reopen.Refusal.{Refusal}
use Rattle.vr_opening.specs.declared.reopen.Refusal.TheVariants.{Lost, OtherMember, Halted}

-- the calls after the mending: the prepares at their new places, and then this value in place of the old one
abbrev pub moving_calls : SuperValue → SuperValue → Face → List Call
moving_calls v new f = slot_calls f ++ write_calls v new (after_all f (slot_calls f))

abbrev pub over_calls : SuperValue → Face → List Call
over_calls v f = if v.fields.version == 2 then [] else moving_calls v (migrated v) f

-- those of a file with this value, which is mended: a stop is a call that failed, or want of memory before the first
abbrev pub MovesOver : SuperValue → Option Disk → Option Disk → Result (Unit {0}) Halt → Type 0
MovesOver v d d' (Ok done) = RunsFrom (over_calls v) d d' true
MovesOver v d d' (Err DiskFault) = RunsFrom (over_calls v) d d' false
MovesOver v d d' (Err NoMemory) = d' ≡ d

-- the file of the member asked for was migrated
pub record IsMigrated (asked : Config) (d d' : Option Disk) : Type 0 where
  pub value : SuperValue
  pub named : config_of value ≡ asked
  pub opens : IfSome d (λ x. opens x.face ≡ Some value)
  pub ran : RunsFrom (migration_calls value) d d' true

-- a stop of a migration: one of its calls failed; or memory was wanted, before the first of them, or once the value was mended
abbrev pub StopsMigration : SuperValue → Option Disk → Option Disk → Halt → Type 0
StopsMigration v d d' DiskFault = RunsFrom (migration_calls v) d d' false
StopsMigration v d d' NoMemory = (d' ≡ d) ⊎ RunsFrom (mend_calls v) d d' true

-- where the value that opens is that of the member asked for; where it is that of another, a stop of its mending
pub record StopsMigrating (asked : Config) (d d' : Option Disk) (halt : Halt) : Type 0 where
  pub value : SuperValue
  pub opens : IfSome d (λ x. opens x.face ≡ Some value)
  pub step : config_of value ≡ asked → StopsMigration value d d' halt
  pub other : config_of value ≢ asked → StopsMending value d d' halt

abbrev pub Migrated : Config → Option Disk → Option Disk → Result (Unit {0}) Refusal → Type 0
Migrated asked d d' (Ok done) = IsMigrated asked d d'
Migrated asked d d' (Err (Lost verdicts)) = LosesCopies d d' verdicts
Migrated asked d d' (Err (OtherMember found)) = IsOther asked found d d'
Migrated asked d d' (Err (Halted halt)) = StopsMigrating asked d d' halt

-- ---- of any member, in a file of version 1

pub record IsMigratedAny (d d' : Option Disk) : Type 0 where
  pub value : SuperValue
  pub opens : IfSome d (λ x. opens_as (Some 1) x.face ≡ Some value)
  pub ran : RunsFrom (migration_calls value) d d' true

pub record StopsMigratingAny (d d' : Option Disk) (halt : Halt) : Type 0 where
  pub value : SuperValue
  pub opens : IfSome d (λ x. opens_as (Some 1) x.face ≡ Some value)
  pub step : StopsMigration value d d' halt

abbrev pub MigratedAny : Option Disk → Option Disk → Result (Unit {0}) NoValue → Type 0
MigratedAny d d' (Ok done) = IsMigratedAny d d'
MigratedAny d d' (Err (none.Lost verdicts)) = LosesCopies d d' verdicts
MigratedAny d d' (Err none.OtherVersion) = LeavesAlone (Some 1) d d'
MigratedAny d d' (Err (none.Halted halt)) = StopsMigratingAny d d' halt
