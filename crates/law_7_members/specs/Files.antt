-- Members of a group at work on their files: what befalls them, in one order. What a member does is what its program says of it, on a
-- disk that tells what its file has: as its last step, cut or run left it, but for faults that keep the premise of the file.
use Rattle.vr_rules.specs.Migrating.{migration_calls}
use Rattle.std.specs.Prelude.{ℕ, ◌^◌, ◌<◌, ◌≡◌, ⊤, List, [], ◌∷◌, ◌++◌, length, slice_get, Option, Some, None}
use Rattle.vr_base.specs.declared.table.Config.{Config}
use Rattle.vr_disk.specs.DiskState.{Disk}
use Rattle.vr_lie.specs.declared.fault.Fault.{Fault}
use Rattle.vr_lie.specs.Faults.{IsFault}
use Rattle.vr_msg.specs.declared.event.Event.{Event}
use Rattle.vr_msg.specs.declared.event.Event.TheVariants as event
use Rattle.vr_msg.specs.declared.output.Output.{Output}
use Rattle.vr_msg.specs.declared.output.Output.TheVariants as output
use Rattle.vr_msg.specs.declared.output.Sent.{Sent}
use Rattle.vr_super.specs.Copies.{SuperValue}
use Rattle.vr_world.specs.Group.{Arrival, Asked, Message, Time, opening_script}
use Rattle.vr_world.specs.Lying.{Lying, after_calls, cut_calls, lying, settled, unless_kept_out}
use Rattle.vr_rules.specs.Replica.{Replica}
use Rattle.vr_rules.specs.Rules.{react}
use Rattle.vr_rules.specs.Sectors.{script_calls, sectors_by}
use Rattle.vr_rules.specs.Steps.{Effect, after_all}
use Rattle.vr_world.specs.World.{Happened, Happening, Host, World, Arrives, Asks, Fuses, Lies, Migrates, Starts, Stops, Ticks, later, nothing, with_member}
use Rattle.vr_rules.specs.Fit.{IsAsked}
use Rattle.vr_serve.specs.Runs.{Did}
use Rattle.vr_node.specs.Opening.{Opens}
use Rattle.vr_node.specs.Steps.{steps}
use Rattle.vr_node.specs.declared.node.Node.{Node}
use Rattle.law_7_members.specs.Deeds.{config_at}

-- ---- what befalls a member

pub data Act : Type 0 where
  -- it handles an event
  Handles : (arrival : Arrival) (did : Did Node) → Act
  -- it is ended while it handles one: so many calls of its disk were made, and the next one is cut, by a code; nothing is put out
  Breaks : (arrival : Arrival) (event : Event) (made code : ℕ) → Act
  -- it is ended between two events
  Ends : Act
  -- it is found again on its file, and puts this out first
  Finds : (after : Option Disk) (first : List Output) (replica : Replica) → Act
  -- it is ended while it is being found, in the same way
  HalfFinds : (made code : ℕ) → Act
  -- its file becomes one of version 2
  Moves : Act
  -- that is ended in the same way
  HalfMoves : (made code : ℕ) → Act
  -- its file begins to lie
  Decays : (fault : Fault) → Act

pub record ActBy : Type 0 where
  pub at : ℕ
  pub act : Act

abbrev pub act_by : ℕ → Act → ActBy
act_by at act = record { at = at; act = act }

-- what it puts out; where it was ended in the midst of its work, or its file lies, a line tells that
abbrev pub puts_out : ℕ → Act → List Output
puts_out at (Handles arrival did) = did.outputs
puts_out at (Breaks arrival e made code) = output.Halted at ∷ []
puts_out at Ends = []
puts_out at (Finds after first replica) = first
puts_out at (HalfFinds made code) = output.Halted at ∷ []
puts_out at Moves = output.Migrated at ∷ []
puts_out at (HalfMoves made code) = output.Halted at ∷ []
puts_out at (Decays fault) = output.Done ∷ []

-- ---- what is asked of the network

-- An event at a member is a request that a client can ask, a message that a member sent to it before, or a tick. So a message may be lost,
-- come again and again, and in any order.
abbrev pub Comes : List Sent → ℕ → Arrival → Event → Type 0
Comes sent at (Asked q) e = IsAsked q × (q.cluster < 2 ^ 64) × (e ≡ event.Request q)
Comes sent at (Message number) e = (s : Sent) × (slice_get sent number ≡ Some s) × (s.to ≡ at) × (e ≡ event.Deliver s.message)
Comes sent at Time e = e ≡ event.Tick

abbrev pub Brings : List Sent → ℕ → Act → Type 0
Brings sent at (Handles arrival did) = Comes sent at arrival did.come.event
Brings sent at (Breaks arrival e made code) = Comes sent at arrival e
Brings sent at _ = ⊤

-- ---- what the program makes of a member and its file

-- a file that is cut in the calls of a script
abbrev pub cut_in : Lying → List Effect → ℕ → ℕ → Lying
cut_in file script made code = cut_calls made code file (script_calls file.version script file.face)

abbrev pub IsWithin : Lying → List Effect → ℕ → Type 0
IsWithin file script made = made < length (script_calls file.version script file.face)

-- its file once an event is handled
abbrev pub file_after : Lying → Replica → Event → Lying
file_after file r e = after_all lying file (react e (sectors_by file.version) r file.face).script

-- from a replica, none while it is stopped, and a file, to others
pub data Becomes (c : Config) : Option Replica → Lying → Act → Option Replica → Lying → Type 0 where
  handles : (file : Lying) (arrival : Arrival) (did : Did Node) (node : Node) (d : Disk) → d.face ≡ file.face → steps node (Some d) did.come.event did.outputs did.after did.disk
      → Becomes c (Some node.replica.memory) file (Handles arrival did) (Some did.after.replica.memory) (file_after file node.replica.memory did.come.event)
  breaks : (file : Lying) (arrival : Arrival) (e : Event) (made code : ℕ) (r : Replica) → IsWithin file (react e (sectors_by file.version) r file.face).script made
      → Becomes c (Some r) file (Breaks arrival e made code) None (cut_in file (react e (sectors_by file.version) r file.face).script made code)
  ends : (file : Lying) (o : Option Replica) → Becomes c o file Ends None file
  finds : (file : Lying) (d : Disk) (v : SuperValue) (after : Option Disk) (first : List Output) (r : Replica) → d.face ≡ file.face → (sectors_by file.version).opens d.face ≡ Some v → Opens None c (Some d) after first r
      → Becomes c None file (Finds after first r) (Some r) (after_all lying file (opening_script v file))
  half_finds : (file : Lying) (v : SuperValue) (made code : ℕ) → (sectors_by file.version).opens file.face ≡ Some v → IsWithin file (opening_script v file) made
      → Becomes c None file (HalfFinds made code) None (cut_in file (opening_script v file) made code)
  moves : (file : Lying) (v : SuperValue) → (sectors_by file.version).opens file.face ≡ Some v → v.fields.version ≡ 1
      → Becomes c None file Moves None (settled (after_calls file (migration_calls v file.face)))
  half_moves : (file : Lying) (v : SuperValue) (made code : ℕ) → (sectors_by file.version).opens file.face ≡ Some v → v.fields.version ≡ 1 → made < length (migration_calls v file.face)
      → Becomes c None file (HalfMoves made code) None (settled (cut_calls made code file (migration_calls v file.face)))
  decays : (file : Lying) (o : Option Replica) (fault : Fault) (left : Lying) → IsFault fault → unless_kept_out file fault ≡ Some left
      → Becomes c o file (Decays fault) o left

-- ---- members at work

abbrev pub on_file : Option Replica → Lying → Host Lying
on_file o file = record { replica = o; disk = file; fuse = None }

-- the member at a place, with its file, and what was put out
abbrev pub left_at : World Lying → ℕ → Option Replica → Lying → List Output → Happened Lying
left_at w at o file os = with_member w at (record { member = on_file o file; outputs = os })

-- one thing befalls a member of a group with these members and files
pub record Befalls (cluster : ℕ) (w : World Lying) (x : ActBy) (h : Happened Lying) : Type 0 where
  pub replica : Option Replica
  pub file : Lying
  pub there : slice_get w.members x.at ≡ Some (on_file replica file)
  pub brings : Brings w.sent x.at x.act
  pub next : Option Replica
  pub left : Lying
  pub becomes : Becomes (config_at cluster w.n x.at) replica file x.act next left
  pub is : h ≡ left_at w x.at next left (puts_out x.at x.act)

-- one thing after another
pub data AtWork (cluster : ℕ) : World Lying → List ActBy → Happened Lying → Type 0 where
  rests : (w : World Lying) → AtWork cluster w [] (nothing w)
  goes_on : (w : World Lying) (x : ActBy) (xs : List ActBy) (one rest : Happened Lying) → Befalls cluster w x one → AtWork cluster one.world xs rest
      → AtWork cluster w (x ∷ xs) (later one.outputs rest)

-- ---- the same as lines of a schedule

abbrev pub line_of : Arrival → ℕ → Happening
line_of (Asked q) at = Asks at q
line_of (Message number) at = Arrives number
line_of Time at = Ticks at

abbrev pub lines_of : ℕ → Act → List Happening
lines_of at (Handles arrival did) = line_of arrival at ∷ []
lines_of at (Breaks arrival e made code) = Fuses at made code ∷ line_of arrival at ∷ []
lines_of at Ends = Stops at ∷ []
lines_of at (Finds after first replica) = Starts at ∷ []
lines_of at (HalfFinds made code) = Fuses at made code ∷ Starts at ∷ []
lines_of at Moves = Migrates at ∷ []
lines_of at (HalfMoves made code) = Fuses at made code ∷ Migrates at ∷ []
lines_of at (Decays fault) = Lies at fault ∷ []

abbrev pub all_lines : List ActBy → List Happening
all_lines [] = []
all_lines (x ∷ xs) = lines_of x.at x.act ++ all_lines xs
