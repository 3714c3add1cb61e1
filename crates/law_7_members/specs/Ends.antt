-- How runs of a member's programs end on its file. Each end, once the file is attached again, is an act of `Files`, and what a program says of
-- its disk tells which: that calls failed, or that memory was wanted between them, is a cut at one of them, by some code.
use Rattle.std.specs.Prelude.{ℕ, ◌≡◌, ◌⊎◌, ⊤, List, [], ◌∷◌, ◌++◌, length, Option, Some, None}
use Rattle.std.proofs.Common.{inl, inr}
use Rattle.vr_base.specs.declared.kind.Kind.{Kind}
use Rattle.vr_base.specs.declared.table.Config.{Config}
use Rattle.vr_disk.specs.DiskState.{Call, Disk, Face, Sync, after}
use Rattle.vr_msg.specs.declared.event.Event.{Event}
use Rattle.vr_super.specs.Copies.{SuperValue}
use Rattle.vr_super.specs.Opens.{opens}
use Rattle.vr_world.specs.Group.{Arrival, opening_script}
use Rattle.vr_world.specs.Lying.{Lying, lying}
use Rattle.vr_rules.specs.Replica.{Replica}
use Rattle.vr_rules.specs.Rules.{react}
use Rattle.vr_rules.specs.Sectors.{script_calls, sectors_by}
use Rattle.vr_rules.specs.Steps.{after_all}
use Rattle.vr_node.specs.Moving.{MigrationEnds}
use Rattle.vr_node.specs.Opening.{OpensNone}
use Rattle.vr_node.specs.Running.{NodeEnds, Outside, on_disk}
use Rattle.vr_node.specs.declared.node.Node.{Node}
use Rattle.vr_serve.specs.Causes.{Counts}
use Rattle.vr_base.specs.declared.status.Status.{Status}
use Rattle.vr_base.specs.declared.status.Status.TheVariants as status
use Rattle.law_7_members.specs.Files.{Act, Becomes, Breaks, Ends, Finds, HalfFinds, HalfMoves, Moves}
use Rattle.law_7_members.specs.Runs.{HasDeeds, Stopped}
use Rattle.law_7_members.specs.Whole.{Begins, LeavesUnfinished, Lives, file_of, handled, made_on, new_host}

-- ---- the file between two runs

-- once a disk that tells this is attached again, it tells the file
pub record TellsAgain (d : Option Disk) (file : Lying) : Type 0 where
  pub disk : Disk
  pub told : d ≡ Some disk
  pub face : file.face ≡ after disk.face Sync

-- a value that the file opens as is of its version
abbrev pub OpensAsOwn : Lying → Type 0
OpensAsOwn file = (v : SuperValue) → opens file.face ≡ Some v → v.fields.version ≡ file.version

-- a disk that was attached, and tells the file
pub record IsAttached (d : Disk) (file : Lying) : Type 0 where
  pub tells : d.face ≡ file.face
  pub rests : d.face.waiting ≡ []
  pub own : OpensAsOwn file

-- ---- the end of a run in which the member was found, or made

-- the calls of the step that handles an event
abbrev pub step_calls : Replica → Event → Lying → List Call
step_calls r e file = script_calls file.version (react e (sectors_by file.version) r file.face).script file.face

-- a step that stopped was cut at one of its calls; one that makes none left nothing, as if the member had ended before it
abbrev pub IsBroken : List Call → Arrival → Event → Act → Type 0
IsBroken cs arrival e act = ((made : ℕ) × (code : ℕ) × (act ≡ Breaks arrival e made code)) ⊎ ((cs ≡ []) × (act ≡ Ends))

-- it ended between two events, or in a step that stopped
abbrev pub IsEndBy : (node : Node) (left d' : Option Disk) (file : Lying) (arrival : Arrival) → (d' ≡ left) ⊎ Stopped node left d' → Act → Type 0
IsEndBy node left d' file arrival (inl same) act = act ≡ Ends
IsEndBy node left d' file arrival (inr stopped) act = IsBroken (step_calls node.replica.memory stopped.event file) arrival stopped.event act

-- The act that a run ends with, and the file that it leaves to the next run. Arrival: what brought the event of the step that stopped.
pub record EndsAs (c : Config) (node : Node) (left d' : Option Disk) (ends : (d' ≡ left) ⊎ Stopped node left d') (file : Lying) (arrival : Arrival) : Type 0 where
  pub act : Act
  pub is : IsEndBy node left d' file arrival ends act
  pub next : Lying
  pub becomes : Becomes c (Some node.replica.memory) file act None next
  pub again : TellsAgain d' next

-- of a member that was found again on its file
abbrev pub FoundRunsEnd : Type 0
FoundRunsEnd =
    (c : Config) (file : Lying) (d : Disk) (v : SuperValue) (o o' : Outside) (run : HasDeeds None c o o') (arrival : Arrival) → o.disk ≡ Some d → IsAttached d file → (sectors_by file.version).opens d.face ≡ Some v
    → EndsAs c run.last run.left o'.disk run.ends (file_of (after_all lying file (opening_script v file)) run.node.replica.memory run.dids) arrival

-- of one that was made
abbrev pub MadeRunsEnd : Type 0
MadeRunsEnd =
    (kind : Kind) (c : Config) (d : Disk) (o o' : Outside) (run : HasDeeds (Some kind) c o o') (arrival : Arrival) → o.disk ≡ Some d
    → EndsAs c run.last run.left o'.disk run.ends (file_of (made_on kind c d.face) run.node.replica.memory run.dids) arrival

-- ---- a run that found no member, and a migration

-- an act of a stopped member, or none
abbrev pub Passes : Config → Lying → Option Act → Lying → Type 0
Passes c file None left = left ≡ file
Passes c file (Some act) left = Becomes c None file act None left

-- what a run came to of which this is said, and the file that it leaves to the next run
pub record LeavesBy (c : Config) (file : Lying) (IsSo : Option Act → Type 0) (d' : Option Disk) : Type 0 where
  pub act : Option Act
  pub is : IsSo act
  pub next : Lying
  pub passes : Passes c file act next
  pub again : TellsAgain d' next

-- nothing, or an opening that was cut: also where it mended the value, and no more
abbrev pub IsHalfFound : Option Act → Type 0
IsHalfFound None = ⊤
IsHalfFound (Some act) = (made : ℕ) × (code : ℕ) × (act ≡ HalfFinds made code)

-- by the status of a run that found no member
abbrev pub IsHalted : Status → Option Act → Type 0
IsHalted status.SuperLost act = act ≡ None
IsHalted _ act = IsHalfFound act

abbrev pub OpeningsHalt : Type 0
OpeningsHalt = (c : Config) (file : Lying) (d : Disk) (d' : Option Disk) (s : Status) → IsAttached d file → OpensNone None c (Some d) d' s → LeavesBy c file (IsHalted s) d'

-- By the status of a migration. A file of version 1 is moved, or that was cut; one of version 2 is mended alone. Where it is another member's, and
-- where memory was wanted, it is mended, or nothing befell it.
abbrev pub IsMoving : Lying → Status → Option Act → Type 0
IsMoving file status.Done act = (v : SuperValue) × (opens file.face ≡ Some v) × (((v.fields.version ≡ 1) × (act ≡ Some Moves)) ⊎ ((v.fields.version ≡ 2) × IsHalfFound act))
IsMoving file status.SuperLost act = act ≡ None
IsMoving file status.DiskFault act = ((made : ℕ) × (code : ℕ) × (act ≡ Some (HalfMoves made code))) ⊎ IsHalfFound act
IsMoving file _ act = IsHalfFound act

abbrev pub MigrationsAreActs : Type 0
MigrationsAreActs =
    (c : Config) (name : List ℕ) (file : Lying) (d d' : Option Disk) (s : Status) → TellsAgain d file → OpensAsOwn file → MigrationEnds c name d d' s → LeavesBy c file (IsMoving file s) d'

-- ---- any run of `node`

-- It found its member and ended: whatever brought its events, and that of a step that stopped, it was found, handled them and ended by an act, and what
-- befalls the member from there goes on from what the run left.
pub record LivesOn (c : Config) (file : Lying) (o o' : Outside) (run : HasDeeds None c o o') (arrivals : List Arrival) (arrival : Arrival) : Type 0 where
  pub value : SuperValue
  pub opened : (sectors_by file.version).opens file.face ≡ Some value
  pub end : EndsAs c run.last run.left o'.disk run.ends (file_of (after_all lying file (opening_script value file)) run.node.replica.memory run.dids) arrival
  pub goes : (acts : List Act) → Lives c None end.next acts → Lives c None file (Finds run.disk run.first run.node.replica.memory ∷ (handled arrivals run.dids ++ end.act ∷ acts))

pub record FoundAndEnded (c : Config) (file : Lying) (o o' : Outside) : Type 0 where
  pub attached : Option Disk
  pub run : HasDeeds None c (on_disk attached o) o'
  pub each : (arrivals : List Arrival) (arrival : Arrival) → length arrivals ≡ length run.dids → LivesOn c file (on_disk attached o) o' run arrivals arrival

-- the same of a run that made its member, on a file on which no making came to its end
pub record BeginsOn (kind : Kind) (c : Config) (file : Face) (o o' : Outside) (run : HasDeeds (Some kind) c o o') (arrivals : List Arrival) (arrival : Arrival) : Type 0 where
  pub end : EndsAs c run.last run.left o'.disk run.ends (file_of (made_on kind c file) run.node.replica.memory run.dids) arrival
  pub goes : (acts : List Act) → Lives c None end.next acts → Begins kind c (new_host kind c (made_on kind c file)) (handled arrivals run.dids ++ end.act ∷ acts)

pub record MadeAndEnded (kind : Kind) (c : Config) (o o' : Outside) : Type 0 where
  pub attached : Disk
  pub run : HasDeeds (Some kind) c (on_disk (Some attached) o) o'
  pub each : (arrivals : List Arrival) (arrival : Arrival) → length arrivals ≡ length run.dids → BeginsOn kind c attached.face (on_disk (Some attached) o) o' run arrivals arrival

abbrev pub NodeRunsAreActs : Type 0
NodeRunsAreActs =
    (c : Config) (name : List ℕ) (peers : List (List ℕ)) (turns : ℕ) (o o' : Outside) (before now : Counts) (s : Status) (file : Lying) → TellsAgain o.disk file → OpensAsOwn file → NodeEnds None c name peers turns o o' before now s
    → LeavesBy c file (IsHalted s) o'.disk ⊎ FoundAndEnded c file o o'

-- a run that was to make its member left a file on which the next one may make it, or made it
abbrev pub MakingRunsAreActs : Type 0
MakingRunsAreActs =
    (kind : Kind) (c : Config) (name : List ℕ) (peers : List (List ℕ)) (turns : ℕ) (o o' : Outside) (before now : Counts) (s : Status) → LeavesUnfinished c o.disk → NodeEnds (Some kind) c name peers turns o o' before now s
    → LeavesUnfinished c o'.disk ⊎ MadeAndEnded kind c o o'
