-- What a word leaves of a disk that tells, and what a stop at any of its calls leaves.
use Rattle.std.specs.Prelude.{ℕ, ◌<◌, ◌≤◌, ◌≡◌, ◌≢◌, ◌⊎◌, Bool, true, false, List, [], ◌++◌, length, take, Option, Some, Result, Ok, Err}
use Rattle.vr_disk.specs.DiskState as disk
use Rattle.vr_disk.specs.DiskState.{Call, Face, Disk, Fuse, cut}
use Rattle.vr_disk.specs.Stops.{Stops}
use Rattle.vr_msg.specs.declared.output.Output.{Output}
use Rattle.vr_rules.specs.Replica.{Replica, version}
use Rattle.vr_rules.specs.Steps.{Step, Word, outputs, after_all}
use Rattle.vr_rules.specs.Sectors.{sectors_by, script_calls}
use Rattle.vr_disk.specs.declared.fault.Halt.{Halt}
use Rattle.vr_disk.specs.declared.fault.Halt.TheVariants.{DiskFault, NoMemory}
use Rattle.vr_rules.specs.Does.{Does}

-- the step that a word is on a disk of the replica's version
abbrev pub step_of : Word Face → Replica → Disk → Step
step_of w r d = w (sectors_by (version r)) r d.face

-- the calls of that step
abbrev pub calls_in : Word Face → Replica → Disk → List Call
calls_in w r d = script_calls (version r) (step_of w r d).script d.face

pub record Well (w : Word Face) (r r' : Replica) (d : Disk) (d' : Option Disk) (o o' : List Output) : Type 0 where
  pub replica : r' ≡ (step_of w r d).replica
  pub said : o' ≡ o ++ outputs (step_of w r d).script
  pub left : Disk
  pub is : d' ≡ Some left
  pub face : left.face ≡ after_all (sectors_by (version r)) d.face (step_of w r d).script

-- where all went well, replica, outputs and disk are the definition's
abbrev pub WellIsDone : Type 0
WellIsDone = (w : Word Face) (r r' : Replica) (d : Disk) (d' : Option Disk) (o o' : List Output) → Does w r r' (Some d) d' o o' (Ok tt) → Well w r r' d d' o o'

pub record Stopped (w : Word Face) (r : Replica) (d : Disk) (d' : Option Disk) : Type 0 where
  pub left : Disk
  pub is : d' ≡ Some left
  pub stop : Stops (calls_in w r d) d.face left.face

-- where a call failed, the disk is as a front of the calls leaves it, or as a cut at the next one does
abbrev pub FaultIsStop : Type 0
FaultIsStop = (w : Word Face) (r r' : Replica) (d : Disk) (d' : Option Disk) (o o' : List Output) → Does w r r' (Some d) d' o o' (Err DiskFault) → Stopped w r d d'

pub record Wanting (w : Word Face) (r : Replica) (d : Disk) (d' : Option Disk) : Type 0 where
  pub left : Disk
  pub is : d' ≡ Some left
  pub count : ℕ
  pub face : left.face ≡ disk.after_all d.face (take count (calls_in w r d))

-- where memory was wanted, it is as a front of the calls leaves it
abbrev pub WantIsFront : Type 0
WantIsFront = (w : Word Face) (r r' : Replica) (d : Disk) (d' : Option Disk) (o o' : List Output) → Does w r r' (Some d) d' o o' (Err NoMemory) → Wanting w r d d'

pub record Cut (w : Word Face) (r : Replica) (d : Disk) (d' : Option Disk) (fuse : Fuse) : Type 0 where
  pub left : Disk
  pub is : d' ≡ Some left
  pub face : left.face ≡ cut fuse.calls fuse.code d.face (calls_in w r d)

-- no call was cut so far, none is to fail, and this fuse is armed
pub record Armed (d : Disk) (fuse : Fuse) : Type 0 where
  pub alive : d.fate.dead ≡ false
  pub none : d.fate.failing ≡ []
  pub armed : d.fate.fuse ≡ Some fuse

-- a fuse at any call, with any code, leaves the cut of the calls at it, unless memory was wanted
abbrev pub FuseIsCut : Type 0
FuseIsCut =
    (w : Word Face) (r r' : Replica) (d : Disk) (d' : Option Disk) (o o' : List Output) (result : Result (Unit {0}) Halt) (fuse : Fuse) → Armed d fuse
    → fuse.calls < length (calls_in w r d) → Does w r r' (Some d) d' o o' result
    → (result ≡ Err NoMemory) ⊎ ((result ≡ Err DiskFault) × Cut w r d d' fuse)

-- a fuse past the calls fails none of them
abbrev pub FuseIsLater : Type 0
FuseIsLater =
    (w : Word Face) (r r' : Replica) (d : Disk) (d' : Option Disk) (o o' : List Output) (fuse : Fuse) → Armed d fuse
    → length (calls_in w r d) ≤ fuse.calls → Does w r r' (Some d) d' o o' (Err DiskFault) → ⊥
