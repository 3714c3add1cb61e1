-- Whole runs of the programs of a group's members, interleaved.
use Rattle.std.specs.Prelude.{ℕ, ◌^◌, ◌<◌, ◌≤◌, ◌≡◌, ◌==◌, ⊤, List, [], ◌∷◌, ◌++◌, length, map, Option, Some, None, if◌then◌else◌}
use Rattle.std.specs.List.{AllByRecursion, range_with_len}
use Rattle.vr_base.specs.Groups.{least_members}
use Rattle.vr_base.specs.declared.kind.Kind.{Kind}
use Rattle.vr_base.specs.declared.table.Config.{Config}
use Rattle.vr_disk.specs.DiskState.{Call, Disk, Face, IsFace, Sync, after}
use Rattle.vr_disk.specs.Stops.{Stops}
use Rattle.vr_header.specs.NoCollision.{NoCollision}
use Rattle.vr_lie.specs.declared.fault.Fault.{Fault}
use Rattle.vr_lie.specs.Faults.{IsFault, faulted}
use Rattle.vr_rings.specs.Held.{looked}
use Rattle.vr_msg.specs.declared.output.Output.{Output}
use Rattle.vr_msg.specs.declared.output.Sent.{Sent}
use Rattle.vr_super.specs.Copies.{SuperValue}
use Rattle.vr_super.specs.Opens.{opens}
use Rattle.vr_rules.specs.Formatting.{format_calls}
use Rattle.vr_rules.specs.Opening.{AreKinds, IsKind, first_value, fresh}
use Rattle.vr_world.specs.Group.{Arrival, opening_script}
use Rattle.vr_world.specs.Lying.{Lying, after_calls, each_slot, lying, zero_face}
use Rattle.vr_rules.specs.Replica.{Replica}
use Rattle.vr_rules.specs.Steps.{after_all}
use Rattle.vr_world.specs.World.{Happened, Host, World}
use Rattle.vr_rules.specs.Outputs.{messages}
use Rattle.vr_rules.specs.Sectors.{sectors_by}
use Rattle.law_4_disks.specs.Worlds.{first_world}
use Rattle.law_5_seals.specs.Seals.{HasSectors, IsSealed}
use Rattle.law_6_one_log.specs.Schedules.{IsHashedOf}
use Rattle.law_6_one_log.specs.Laws.{KeepsLog}
use Rattle.vr_serve.specs.Runs.{Did}
use Rattle.vr_node.specs.Opening.{OpensNone}
use Rattle.vr_node.specs.Running.{Outside}
use Rattle.vr_node.specs.declared.node.Node.{Node}
use Rattle.vr_base.specs.declared.status.Status.{Status}
use Rattle.law_7_members.specs.Deeds.{config_at}
use Rattle.law_7_members.specs.Files.{Act, ActBy, AtWork, Becomes, Brings, Ends, Finds, Handles, all_lines, file_after, on_file, puts_out}
use Rattle.law_7_members.specs.Runs.{HasDeeds}

-- ---- one member

-- the deeds of a run, with what brought each event
abbrev pub handled : List Arrival → List (Did Node) → List Act
handled [] dids = []
handled (a ∷ arrivals) [] = []
handled (a ∷ arrivals) (did ∷ dids) = Handles a did ∷ handled arrivals dids

-- and its file after them
abbrev pub file_of : Lying → Replica → List (Did Node) → Lying
file_of file r [] = file
file_of file r (did ∷ dids) = file_of (file_after file r did.come.event) did.after.replica.memory dids

-- What one member does over time, from a replica, none while it is stopped, and a file: runs of its program, one after the other, each on
-- the file that the one before left. A run that ended ends between two events, or within the work of one; between two runs the file may
-- begin to lie.
pub data Lives (c : Config) : Option Replica → Lying → List Act → Type 0 where
  rests : (o : Option Replica) (file : Lying) → Lives c o file []
  runs : (file : Lying) (d : Disk) (v : SuperValue) (o o' : Outside) (run : HasDeeds None c o o') (arrivals : List Arrival) (acts : List Act) → o.disk ≡ Some d → d.face ≡ file.face → (sectors_by file.version).opens d.face ≡ Some v → length arrivals ≡ length run.dids
      → Lives c (Some run.last.replica.memory) (file_of (after_all lying file (opening_script v file)) run.node.replica.memory run.dids) acts
      → Lives c None file (Finds run.disk run.first run.node.replica.memory ∷ (handled arrivals run.dids ++ acts))
  goes : (o next : Option Replica) (file left : Lying) (act : Act) (acts : List Act) → Becomes c o file act next left → Lives c next left acts → Lives c o file (act ∷ acts)

-- ---- how it begins

-- the calls that make its file
abbrev pub making : Kind → Config → List Call
making kind c = format_calls kind c.cluster c.n c.replica

-- A file of whatever bytes that was attached, and that no member of the group of this number has written to: no sector of it begins with the header of an
-- entry of that group, of an op that a log may come to, as it is or with each of its bits turned. What other groups left on it may stand there.
pub record IsUnused (cluster : ℕ) (f : Face) : Type 0 where
  pub face : IsFace f
  pub rests : f.waiting ≡ []
  pub bare : HasSectors (IsSealed cluster []) f

-- A file on which no making of the member came to its end: it is of zeros, or of any other bytes but entries of its group; or a making stopped on one of these, at
-- a call that failed or was cut, and the file was attached again; or one of these began to lie, by any fault.
pub data IsUnfinished (c : Config) : Face → Type 0 where
  zeros : IsUnfinished c zero_face
  unused : (file : Face) → IsUnused c.cluster file → IsUnfinished c file
  stopped : (kind : Kind) (file left : Face) → IsKind kind → least_members kind.version ≤ c.n → IsUnfinished c file → Stops (making kind c) file left → IsUnfinished c (after left Sync)
  decays : (file : Face) (fault : Fault) → IsUnfinished c file → IsFault fault → IsUnfinished c (faulted file fault)

-- What a run leaves that was to make the member, and made none: once its file is attached again, it is such a one.
pub record LeavesUnfinished (c : Config) (d' : Option Disk) : Type 0 where
  pub disk : Disk
  pub told : d' ≡ Some disk
  pub unfinished : IsUnfinished c (after disk.face Sync)

abbrev pub MakingsLeaveUnfinished : Type 0
MakingsLeaveUnfinished = (kind : Kind) (c : Config) (d : Disk) (d' : Option Disk) (status : Status) → IsUnfinished c d.face → OpensNone (Some kind) c (Some d) d' status → LeavesUnfinished c d'

-- such a file, which is to be of this kind, and whose slots hold what they read as; and what a whole making leaves of it
abbrev pub as_read : Kind → Face → Lying
as_read kind f = record { face = f; held = each_slot (λ slot. looked kind.version f slot None); version = kind.version }

abbrev pub made_on : Kind → Config → Face → Lying
made_on kind c f = after_calls (as_read kind f) (making kind c)

-- a member that was just made, with its file
abbrev pub new_host : Kind → Config → Lying → Host Lying
new_host kind c file = on_file (Some (fresh kind c.cluster c.n c.replica)) file

-- How a member begins, and all that it does.
pub data Begins (kind : Kind) (c : Config) : Host Lying → List Act → Type 0 where
  -- a run makes it to the end, whatever makings stopped on its file before
  makes : (disk : Disk) (o o' : Outside) (run : HasDeeds (Some kind) c o o') (arrivals : List Arrival) (acts : List Act) → o.disk ≡ Some disk → IsUnfinished c disk.face → length arrivals ≡ length run.dids
      → Lives c (Some run.last.replica.memory) (file_of (made_on kind c disk.face) run.node.replica.memory run.dids) acts
      → Begins kind c (new_host kind c (made_on kind c disk.face)) (handled arrivals run.dids ++ acts)
  -- a making stopped so late that its file opens as the first value: it counts as made, and as ended then
  stops_late : (file : Face) (acts : List Act) → IsUnfinished c file → opens file ≡ Some (first_value kind c.cluster c.n c.replica) → Lives c None (as_read kind file) acts → Begins kind c (new_host kind c (as_read kind file)) (Ends ∷ acts)
  -- it isn't made yet, and does nothing
  waits : Begins kind c (new_host kind c (made_on kind c zero_face)) []

-- ---- all of them

-- what one of them does, of what all do
abbrev pub own : ℕ → List ActBy → List Act
own i [] = []
own i (x ∷ xs) = if x.at == i then x.act ∷ own i xs else own i xs

-- the network brings what was sent before
abbrev pub Carries : List Sent → List ActBy → Type 0
Carries sent [] = ⊤
Carries sent (x ∷ xs) = Brings sent x.at x.act × Carries (sent ++ messages (puts_out x.at x.act)) xs

abbrev pub all_said : List ActBy → List Output
all_said [] = []
all_said (x ∷ xs) = puts_out x.at x.act ++ all_said xs

-- each of n members, that first are these, does its own, in any order
pub record AreRuns (kinds : ℕ → Kind) (cluster n : ℕ) (first : ℕ → Host Lying) (xs : List ActBy) : Type 0 where
  pub members : AllByRecursion (λ (x : ActBy). x.at < n) xs
  pub each : (i : ℕ) → i < n → Begins (kinds i) (config_at cluster n i) (first i) (own i xs)
  pub carried : Carries [] xs

-- the world in which they begin, and nothing was sent
unfoldable pub world_of : (ℕ → Host Lying) → ℕ → World Lying
world_of first n = record { n = n; members = map first (range_with_len 0 n); sent = [] }

-- where all are made on zeros, it is the first world of `nodes_keep_one_log`
abbrev pub on_zeros : (ℕ → Kind) → ℕ → ℕ → ℕ → Host Lying
on_zeros kinds cluster n i = new_host (kinds i) (config_at cluster n i) (made_on (kinds i) (config_at cluster n i) zero_face)

abbrev pub ZerosBeginTheFirst : Type 0
ZerosBeginTheFirst = (kinds : ℕ → Kind) (cluster n : ℕ) → world_of (on_zeros kinds cluster n) n ≡ first_world kinds cluster n

-- They are members of one group at work, and put out just this.
pub record AreAtWork (cluster n : ℕ) (first : ℕ → Host Lying) (xs : List ActBy) : Type 0 where
  pub left : Happened Lying
  pub work : AtWork cluster (world_of first n) xs left
  pub said : left.outputs ≡ all_said xs

-- so does each interleaving of whole runs
abbrev pub RunsAreAtWork : Type 0
RunsAreAtWork = (kinds : ℕ → Kind) (cluster n : ℕ) (first : ℕ → Host Lying) (xs : List ActBy) → AreRuns kinds cluster n first xs → AreAtWork cluster n first xs

-- So they keep one log, where names don't collide, of what was read, held and written.
pub record KeepOneLog (kinds : ℕ → Kind) (cluster n : ℕ) (first : ℕ → Host Lying) (xs : List ActBy) : Type 0 where
  pub work : AreAtWork cluster n first xs
  pub log : KeepsLog kinds cluster n work.left

abbrev pub RunsKeepOneLog : Type 0
RunsKeepOneLog =
    (kinds : ℕ → Kind) (cluster n : ℕ) (first : ℕ → Host Lying) (xs : List ActBy) → AreKinds kinds n → cluster < 2 ^ 64 → 1 ≤ n → n ≤ 6 → length xs < 2 ^ 46 → AreRuns kinds cluster n first xs → NoCollision (IsHashedOf cluster (world_of first n) (all_lines xs))
    → KeepOneLog kinds cluster n first xs
