-- A replica is recovered from its disk.
use Rattle.std.specs.Prelude.{ℕ, ◌≡◌, ◌≢◌, ◌==◌, not, Bool, true, false, if◌then◌else◌, List, map, Option, Some, None, IfSome, is_some, Result, Ok, Err}
use Rattle.std.specs.Option.{option_and_then}
use Rattle.vr_base.specs.declared.table.Config.{Config}
use Rattle.vr_disk.specs.DiskState.{Disk, Face, Runs, RunsFrom}
use Rattle.vr_msg.specs.declared.output.Output.{Output}
use Rattle.vr_super.specs.Calls.{mend_calls}
use Rattle.vr_super.specs.Copies.{SuperValue}
use Rattle.vr_super.specs.Opens as superblock
use Rattle.vr_super.specs.Opens.{good_copies}
use Rattle.vr_super.specs.Recovers.{copy_verdict}
use Rattle.vr_super.specs.declared.recovering.CopyVerdict.{CopyVerdict}
use Rattle.vr_super.specs.declared.recovering.FindFault.{FindFault}
use Rattle.vr_super.specs.declared.recovering.FindFault.TheVariants as find
use Rattle.vr_rules.specs.Replica.{Replica}
use Rattle.vr_rules.specs.Steps.{Word, ◌⨾◌}
use Rattle.vr_rules.specs.Opening.{recover_parts, resuming, opening, blank}
use Rattle.vr_disk.specs.declared.fault.Halt.{Halt}
use Rattle.vr_disk.specs.declared.fault.Halt.TheVariants.{DiskFault, NoMemory}
use Rattle.vr_opening.specs.declared.reopen.NoValue.{NoValue}
use Rattle.vr_opening.specs.declared.reopen.NoValue.TheVariants as none
use Rattle.vr_opening.specs.declared.reopen.Refusal.{Refusal}
use Rattle.vr_opening.specs.declared.reopen.Refusal.TheVariants.{Lost, OtherMember, Halted}
use Rattle.vr_rules.specs.Does.{Does}

-- an opening, after the mending of the superblock
abbrev pub after_mend : SuperValue → Word Face
after_mend v = recover_parts v ⨾ resuming

-- a word whose function gives the replica
abbrev pub DoesTo : Word Face → Replica → Option Disk → Option Disk → List Output → List Output → Result Replica Halt → Type 0
DoesTo w r d d' o o' (Ok q) = Does w r q d d' o o' (Ok tt)
DoesTo w r d d' o o' (Err halt) = Does w r r d d' o o' (Err halt)

abbrev pub config_of : SuperValue → Config
config_of v = record { cluster = v.fields.cluster; replica = v.fields.replica; n = v.fields.n }

-- a file of another version than the one that is asked for, where one is
abbrev pub is_other : Option ℕ → ℕ → Bool
is_other None version = false
is_other (Some wanted) version = not (version == wanted)

-- a value that is left alone
abbrev pub is_left : Option ℕ → SuperValue → Bool
is_left wanted v = is_other wanted v.fields.version

abbrev pub runs_as : Option ℕ → SuperValue → Option SuperValue
runs_as wanted v = if is_left wanted v then None else Some v

-- the value that a disk opens as, in a file of the version that is asked for: none where no two good copies agree, and none where its
-- file is of another version
abbrev pub opens_as : Option ℕ → Face → Option SuperValue
opens_as wanted f = option_and_then (runs_as wanted) (superblock.opens f)

-- in a file of either version
abbrev pub opens : Face → Option SuperValue
opens f = opens_as None f

-- no two good copies agree, and no call is made: which of the four are good
pub record LosesCopies (d d' : Option Disk) (verdicts : List CopyVerdict) : Type 0 where
  pub untold : d ≡ None → d' ≡ None
  pub told : (x : Disk) → d ≡ Some x → (superblock.opens x.face ≡ None) × (d' ≡ Some x) × (verdicts ≡ map copy_verdict (good_copies x.face))

-- a version is asked for, and there is a value, but its file is of another version; no call is made
pub record LeavesAlone (wanted : Option ℕ) (d d' : Option Disk) : Type 0 where
  pub asked : is_some wanted ≡ true
  pub untold : d ≡ None → d' ≡ None
  pub told : (x : Disk) → d ≡ Some x → (is_some (superblock.opens x.face) ≡ true) × (opens_as wanted x.face ≡ None) × (d' ≡ Some x)

-- the value that opens is mended
pub record MendsValue (wanted : Option ℕ) (v : SuperValue) (d d' : Option Disk) : Type 0 where
  pub untold : d ≡ None → d' ≡ None
  pub told : (x : Disk) → d ≡ Some x → (opens_as wanted x.face ≡ Some v) × Runs (mend_calls v x.face) (Some x) d' true

-- a word for the value that opens; where the disk tells nothing, for any
pub record BeginsWith (wanted : Option ℕ) (w : SuperValue → Word Face) (d d' : Option Disk) (o o' : List Output) (result : Result Replica Halt) : Type 0 where
  pub value : SuperValue
  pub opens : IfSome d (λ x. opens_as wanted x.face ≡ Some value)
  pub step : DoesTo (w value) (blank value) d d' o o' result

-- a stop before a value is mended: a call of the mending failed; or memory was wanted, before the first of them
abbrev pub StopsMending : SuperValue → Option Disk → Option Disk → Halt → Type 0
StopsMending v d d' DiskFault = RunsFrom (mend_calls v) d d' false
StopsMending v d d' NoMemory = d' ≡ d

-- the value that opens isn't mended, or not wholly; where the disk tells nothing, any value
pub record LeavesUnmended (wanted : Option ℕ) (d d' : Option Disk) (halt : Halt) : Type 0 where
  pub value : SuperValue
  pub opens : IfSome d (λ x. opens_as wanted x.face ≡ Some value)
  pub stops : StopsMending value d d' halt

abbrev pub FindsValue : Option ℕ → Option Disk → Option Disk → Result SuperValue NoValue → Type 0
FindsValue wanted d d' (Ok v) = MendsValue wanted v d d'
FindsValue wanted d d' (Err (none.Lost verdicts)) = LosesCopies d d' verdicts
FindsValue wanted d d' (Err none.OtherVersion) = LeavesAlone wanted d d'
FindsValue wanted d d' (Err (none.Halted halt)) = LeavesUnmended wanted d d' halt

-- where none was found: one that there was no memory for is left alone by its version
unfoldable pub not_found : Option ℕ → FindFault → NoValue
not_found wanted (find.Lost verdicts) = none.Lost verdicts
not_found wanted (find.NoMemory version) = if is_other wanted version then none.OtherVersion else none.Halted NoMemory

-- and so there is no replica, for the same cause; where no version is asked for, no file is of another one
abbrev pub IsRefusal : NoValue → Refusal → Type 0
IsRefusal (none.Lost verdicts) refusal = refusal ≡ Lost verdicts
IsRefusal none.OtherVersion refusal = ⊥
IsRefusal (none.Halted halt) refusal = refusal ≡ Halted halt

-- the value is that of another member
pub record IsOther (asked found : Config) (d d' : Option Disk) : Type 0 where
  pub value : SuperValue
  pub mended : MendsValue None value d d'
  pub named : found ≡ config_of value
  pub other : found ≢ asked

-- the replica that opens is that of the member asked for
pub record IsAsked (asked : Config) (d d' : Option Disk) (o o' : List Output) (r : Replica) : Type 0 where
  pub value : SuperValue
  pub named : config_of value ≡ asked
  pub opens : IfSome d (λ x. opens x.face ≡ Some value)
  pub step : Does (opening value) (blank value) r d d' o o' (Ok tt)

-- a stop in the opening of the value, where it is that of the member asked for; where it is that of another, in its mending
pub record StopsAsked (asked : Config) (d d' : Option Disk) (o o' : List Output) (halt : Halt) : Type 0 where
  pub value : SuperValue
  pub opens : IfSome d (λ x. opens x.face ≡ Some value)
  pub step : config_of value ≡ asked → DoesTo (opening value) (blank value) d d' o o' (Err halt)
  pub other : config_of value ≢ asked → StopsMending value d d' halt

abbrev pub Recovered : Config → Option Disk → Option Disk → List Output → List Output → Result Replica Refusal → Type 0
Recovered asked d d' o o' (Ok r) = IsAsked asked d d' o o' r
Recovered asked d d' o o' (Err (Lost verdicts)) = LosesCopies d d' verdicts
Recovered asked d d' o o' (Err (OtherMember found)) = IsOther asked found d d'
Recovered asked d d' o o' (Err (Halted halt)) = StopsAsked asked d d' o o' halt

-- a recovery of whatever member, in a file of this version: the replica is that of the value that opens
abbrev pub RecoveredAny : ℕ → Option Disk → Option Disk → List Output → List Output → Result Replica NoValue → Type 0
RecoveredAny version d d' o o' (Ok r) = BeginsWith (Some version) opening d d' o o' (Ok r)
RecoveredAny version d d' o o' (Err (none.Lost verdicts)) = LosesCopies d d' verdicts
RecoveredAny version d d' o o' (Err none.OtherVersion) = LeavesAlone (Some version) d d'
RecoveredAny version d d' o o' (Err (none.Halted halt)) = BeginsWith (Some version) opening d d' o o' (Err halt)
