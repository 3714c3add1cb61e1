-- What a member has on its disk and in its memory, and what it says to the others.
-- The head is the number up to which it knows the log without a gap; headers may be known above it too.
-- A state machine's state stands as the list of the entries that were applied, the newest first.
use Rattle.std.specs.Prelude.{ℕ, ◌≤◌, ◌<◌, ◌≡◌, List, Option, Some, None}
use Rattle.law_1_machine.specs.Parts.{Part, header}

-- a value of the superblock
pub record Superblock (H : Type 0) : Type 0 where
  pub view : ℕ
  -- the last view in which the member took over or began a log
  pub log_view : ℕ
  pub checkpoint : ℕ
  pub commit : ℕ
  pub head : ℕ
  -- the headers stored in it, by number
  pub named : ℕ → Option H
  -- what the checkpoint's state came from
  pub root : List H

-- a member that runs
pub record Memory (H : Type 0) : Type 0 where
  pub view : ℕ
  pub log_view : ℕ
  pub checkpoint : ℕ
  pub commit : ℕ
  pub applied : ℕ
  pub head : ℕ
  pub parts : ℕ → Part H
  -- what the checkpoint's state came from
  pub root : List H
  -- what the state came from; there is none while a block of the checkpoint is missing, and nothing is applied then
  pub state : Option (List H)

-- what a member states in a view change
pub record Statement (H : Type 0) : Type 0 where
  pub log_view : ℕ
  pub commit : ℕ
  pub head : ℕ
  pub tags : ℕ → Part H

-- the log that a primary chose for a view
pub record Choice (H : Type 0) : Type 0 where
  pub by : ℕ
  pub view : ℕ
  -- the greatest log view among the statements heard: the log is that view's, cut at head
  pub log_view : ℕ
  -- the greatest commit number among them
  pub commit : ℕ
  pub head : ℕ
  -- the statements heard, by member
  pub heard : ℕ → Option (Statement H)
  -- the log's headers above the commit number
  pub log : ℕ → Option H

-- what members send; a request and a reply are no concern of the protocol's safety
pub data Message (H : Type 0) : Type 0 where
  -- the primary hands on an entry, and its commit number
  Prepare : (from view k : ℕ) (entry : H) (commit : ℕ) → Message H
  -- a backup has the entry on its disk
  Prepare_ok : (from view k : ℕ) (entry : H) → Message H
  -- the primary's commit number
  Commit : (from view commit : ℕ) → Message H
  -- the sender has entered the view
  Start_view_change : (from view : ℕ) → Message H
  -- what the sender states to the primary of a view that hasn't begun
  Do_view_change : (from view : ℕ) (statement : Statement H) → Message H
  -- the log of a view above low, up to head
  Start_view : (from view low head commit : ℕ) (headers : ℕ → Option H) → Message H
  -- a checkpoint, and what its state came from; with a start_view it lets a member jump
  Checkpoint : (from view checkpoint : ℕ) (root : List H) → Message H
  -- asks for the log of a view, which the sender may not have come to
  Get_view : (from view : ℕ) → Message H
  -- asks for an entry or a block, or gives one
  Repair : (from : ℕ) → Message H

module _ {H : Type 0} where
  abbrev pub sender : Message H → ℕ
  sender (Prepare from view k entry commit) = from
  sender (Prepare_ok from view k entry) = from
  sender (Commit from view commit) = from
  sender (Start_view_change from view) = from
  sender (Do_view_change from view statement) = from
  sender (Start_view from view low head commit headers) = from
  sender (Checkpoint from view checkpoint root) = from
  sender (Get_view from view) = from
  sender (Repair from) = from

  -- the view in which it was sent
  abbrev pub view_of : Message H → Option ℕ
  view_of (Prepare from view k entry commit) = Some view
  view_of (Prepare_ok from view k entry) = Some view
  view_of (Commit from view commit) = Some view
  view_of (Start_view_change from view) = Some view
  view_of (Do_view_change from view statement) = Some view
  view_of (Start_view from view low head commit headers) = Some view
  view_of (Checkpoint from view checkpoint root) = Some view
  view_of (Get_view from view) = None
  view_of (Repair from) = None

  -- m says, in view v, that all up to c is committed
  pub data CommitNumber : Message H → ℕ → ℕ → Type 0 where
    in_prepare : (from view k : ℕ) (entry : H) (commit : ℕ) → CommitNumber (Prepare from view k entry commit) view commit
    in_commit : (from view commit : ℕ) → CommitNumber (Commit from view commit) view commit
    in_start_view : (from view low head commit : ℕ) (headers : ℕ → Option H) → CommitNumber (Start_view from view low head commit headers) view commit
    in_checkpoint : (from view checkpoint : ℕ) (root : List H) → CommitNumber (Checkpoint from view checkpoint root) view checkpoint
    -- a statement says it of its log view
    in_statement : (from view : ℕ) (t : Statement H) → CommitNumber (Do_view_change from view t) t.log_view t.commit

  -- what is saved of a memory
  abbrev pub superblock : Memory H → (ℕ → Option H) → Superblock H
  superblock m named = record { view = m.view; log_view = m.log_view; checkpoint = m.checkpoint; commit = m.commit; head = m.head; named = named; root = m.root }

  -- a superblock names known headers, and all those between the checkpoint and the head
  pub record Names (m : Memory H) (named : ℕ → Option H) : Type 0 where
    pub known : (k : ℕ) (h : H) → named k ≡ Some h → header (m.parts k) ≡ Some h
    pub all : (k : ℕ) → m.checkpoint < k → k ≤ m.head → named k ≡ header (m.parts k)

  -- what is stated of it
  abbrev pub statement : Memory H → (ℕ → Part H) → Statement H
  statement m tags = record { log_view = m.log_view; commit = m.commit; head = m.head; tags = tags }

  -- a statement tells each part above the commit number, and up to it as many as it likes
  pub record Tells (m : Memory H) (tags : ℕ → Part H) : Type 0 where
    pub above : (k : ℕ) → m.commit < k → tags k ≡ m.parts k
    pub known : (k : ℕ) (h : H) → header (tags k) ≡ Some h → header (m.parts k) ≡ Some h
