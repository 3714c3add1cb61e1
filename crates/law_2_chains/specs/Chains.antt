-- A step of one replica as a chain of the machine's moves: the machine in the middle of a step, what may be said at its end, and
-- where a step may be cut.
use Rattle.std.specs.Prelude.{ℕ, ◌%◌, ◌<◌, ◌≤◌, ◌≡◌, ◌≢◌, ⊤, List, [], ◌∷◌, Option, Some, None}
use Rattle.vr_header.specs.declared.header.Header.{Header}
use Rattle.vr_header.specs.Names.{name_by}
use Rattle.vr_msg.specs.declared.frame.Frame.{Frame}
use Rattle.vr_msg.specs.declared.frame.Frame.TheVariants as frame
use Rattle.vr_msg.specs.declared.output.Output.{Output}
use Rattle.vr_msg.specs.declared.output.Output.TheVariants as output
use Rattle.vr_msg.specs.declared.statement.Statement.{Statement}
use Rattle.vr_msg.specs.Choice as stated
use Rattle.vr_rules.specs.Replica.{Replica}
use Rattle.vr_rules.specs.Steps.{Step}
use Rattle.vr_rules.specs.Words.{log_header, sync_log}
use Rattle.vr_rules.specs.Deciding.{log_of}
use Rattle.vr_rules.specs.Sound.{IsSound}
use Rattle.law_1_machine.specs.Basics.{In}
use Rattle.law_1_machine.specs.Quorums.{Quorums}
use Rattle.law_1_machine.specs.Parts.{header}
use Rattle.law_1_machine.specs.Members.{Choice, Memory, Message}
use Rattle.law_1_machine.specs.Members as machine
use Rattle.law_1_machine.specs.Group.{Group, Made, made_at, Held}
use Rattle.law_1_machine.specs.Machine.{Reached}
use Rattle.law_1_machine.specs.Laws.{Backed}
use Rattle.law_2_chains.specs.Local.{Local, carried, WhereverCut}
use Rattle.law_2_chains.specs.Reflecting.{entries_by, told_of, Reflects, IsDisk, KeepsStored}

-- what stays the same in a whole run
pub record Setup : Type 0 where
  pub quorums : Quorums
  pub hash : List ℕ → List ℕ
  pub cluster : ℕ

abbrev pub IsReached : Setup → Group Header → Type 0
IsReached u s = Reached u.quorums (entries_by u.hash u.cluster) s

-- ---- what was heard

-- the machine's statement
abbrev pub statement_told : Statement → machine.Statement Header
statement_told t = record { log_view = t.log_view; commit = t.commit; head = t.head; tags = λ k. told_of (stated.stated_part k t) }

-- A message of the rules was sent in the machine. A sync_view is two there, the log of its view and a checkpoint. Requests, replies,
-- questions and what is given say nothing.
abbrev pub WasSent : Setup → List (Message Header) → Frame → Type 0
WasSent u sent (frame.Prepare p) = In (machine.Prepare p.replica p.view p.entry.header.op p.entry.header p.commit) sent
WasSent u sent (frame.PrepareOk a) = (h : Header) × (name_by u.hash h ≡ a.name) × In (machine.Prepare_ok a.replica a.view a.op h) sent
WasSent u sent (frame.Commit c) = In (machine.Commit c.replica c.view c.commit) sent
WasSent u sent (frame.DoViewChange d) = In (machine.Do_view_change d.replica d.view (statement_told d.statement)) sent
WasSent u sent (frame.StartView v) = In (machine.Start_view v.replica v.view v.body.lo v.head v.commit (log_header (log_of v))) sent
WasSent u sent (frame.SyncView v) =
    In (machine.Start_view v.replica v.view v.body.lo v.head v.commit (log_header (sync_log v))) sent
    × ((root : List Header) × In (machine.Checkpoint v.replica v.view v.checkpoint root) sent)
WasSent u sent _ = ⊤

-- ---- what may be said at the end of a step: it stays so until then

-- a vouch of an entry
pub record MayVouch (m : Memory Header) (slots : ℕ → Option Header) (view op : ℕ) (h : Header) : Type 0 where
  pub in_view : m.view ≡ view
  pub of_log : m.log_view ≡ view
  pub known : header (m.parts op) ≡ Some h
  pub held : Held slots m.parts m.checkpoint op h

-- the log of a view that has begun
pub record MayStart (m : Memory Header) (view lo top commit : ℕ) (headers : ℕ → Option Header) : Type 0 where
  pub in_view : m.view ≡ view
  pub of_log : m.log_view ≡ view
  pub reach : m.head ≡ top
  pub backed : commit ≤ m.commit
  pub known : (k : ℕ) (h : Header) → headers k ≡ Some h → (lo < k) × (k ≤ top) × (header (m.parts k) ≡ Some h)
  pub whole : (k : ℕ) → lo < k → k ≤ top → (h : Header) × (headers k ≡ Some h)

-- Of a statement and of a checkpoint nothing is said here: they are told of the replica as it is when they are sent, so no move may come
-- after them. A step that tells one ends with it.
abbrev pub MayBeSent : Setup → ℕ → Memory Header → (ℕ → Option Header) → Frame → Type 0
MayBeSent u i m slots (frame.Prepare p) = (p.replica ≡ i) × (i ≡ p.view % u.quorums.n) × MayVouch m slots p.view p.entry.header.op p.entry.header × (p.commit ≤ m.commit)
MayBeSent u i m slots (frame.PrepareOk a) = (a.replica ≡ i) × ((h : Header) × (name_by u.hash h ≡ a.name) × MayVouch m slots a.view a.op h)
MayBeSent u i m slots (frame.Commit c) = (c.replica ≡ i) × (m.view ≡ c.view) × (m.log_view ≡ c.view) × (c.commit ≤ m.commit)
MayBeSent u i m slots (frame.StartView v) = (v.replica ≡ i) × MayStart m v.view v.body.lo v.head v.commit (log_header (log_of v))
MayBeSent u i m slots (frame.DoViewChange d) = ⊥
MayBeSent u i m slots (frame.SyncView v) = ⊥
MayBeSent u i m slots _ = ⊤

-- a line of an entry that is committed
pub record IsBackedLine (u : Setup) (sent : List (Message Header)) (h : Header) : Type 0 where
  pub view : ℕ
  pub number : ℕ
  pub is : Backed u.quorums (entries_by u.hash u.cluster) sent view number h

abbrev pub MayBeSaid : Setup → List (Message Header) → ℕ → Memory Header → (ℕ → Option Header) → Output → Type 0
MayBeSaid u sent i m slots (output.Send s) = MayBeSent u i m slots s.message
MayBeSaid u sent i m slots (output.Commit c) = IsBackedLine u sent c.entry.header
MayBeSaid u sent i m slots _ = ⊤

-- what asks nothing of the replica
abbrev pub AsksNothingFrame : Frame → Type 0
AsksNothingFrame (frame.Prepare p) = ⊥
AsksNothingFrame (frame.PrepareOk a) = ⊥
AsksNothingFrame (frame.Commit c) = ⊥
AsksNothingFrame (frame.StartView v) = ⊥
AsksNothingFrame (frame.DoViewChange d) = ⊥
AsksNothingFrame (frame.SyncView v) = ⊥
AsksNothingFrame _ = ⊤

abbrev pub AsksNothing : Output → Type 0
AsksNothing (output.Send s) = AsksNothingFrame s.message
AsksNothing (output.Commit c) = ⊥
AsksNothing _ = ⊤

abbrev pub Every : {X : Type 0} → (X → Type 0) → List X → Type 0
Every P [] = ⊤
Every P (x ∷ xs) = P x × Every P xs

-- ---- in the middle of a step of member i, which began in a group `start`

-- an entry that it began to write was made
abbrev pub WasMade : List (Made Header) → Header → Type 0
WasMade made h = In (made_at h.view h.op h) made

-- what holds of the machine, the member running or not
pub record Under (u : Setup) (start : Group Header) (i : ℕ) (l : Local) (s : Group Header) : Type 0 where
  pub reached : IsReached u s
  pub sent : s.sent ≡ start.sent
  -- what was chosen stays so
  pub chosen : (c : Choice Header) → In c start.chosen → In c s.chosen
  pub others : (j : ℕ) → j ≢ i → s.members j ≡ start.members j
  pub disk : IsDisk l.member (s.members i)
  pub made : Every (WasMade s.made) l.made
  -- nothing is made in it
  pub none_made : s.made ≡ start.made

pub record Mid (u : Setup) (start : Group Header) (i : ℕ) (r : Replica) (l : Local) (s : Group Header) : Type 0 where
  pub under : Under u start i l s
  pub memory : Memory Header
  pub running : (s.members i).memory ≡ Some memory
  pub reflects : Reflects r memory
  pub sound : IsSound r
  pub place : r.index ≡ i
  pub size : r.n ≡ u.quorums.n
  pub stored : KeepsStored r l.member
  pub ready : Every (MayBeSaid u start.sent i memory (s.members i).slots) l.said

-- it has stopped, and nothing is said
pub record Stopped (u : Setup) (start : Group Header) (i : ℕ) (l : Local) : Type 0 where
  pub group : Group Header
  pub under : Under u start i l group
  pub still : (group.members i).memory ≡ None

-- ---- a word, at a replica and a disk, is a chain of moves: to its end, and wherever it is cut

pub record Goes (u : Setup) (start : Group Header) (i : ℕ) (l : Local) (x : Step) : Type 0 where
  pub after : Group Header
  pub ends : Mid u start i x.replica (carried x.script l) after
  pub cuts : WhereverCut (Stopped u start i) x.script l
