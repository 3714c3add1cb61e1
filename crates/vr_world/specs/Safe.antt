-- What every run of a group keeps, said of its outputs in order, of what was stated, and of what each replica had applied.
use Rattle.std.specs.Prelude.{ℕ, ◌+◌, ◌-◌, ◌<◌, ◌≤◌, ◌≡◌, ◌==◌, ⊤, Bool, true, List, [], ◌∷◌, ◌++◌, length, take, drop, filter_map, slice_get, slice_index_or, Contains, Option, None, Some, if◌then◌else◌}
use Rattle.std.specs.List.{list_any, range_with_len}
use Rattle.std.specs.Option.{option_map_or}
use Rattle.vr_base.specs.declared.replicas.Replicas.{Replicas}
use Rattle.vr_base.specs.Groups.{quorums_of}
use Rattle.vr_base.specs.Replicas.{has_replica, size}
use Rattle.vr_header.specs.declared.header.Header.{Header}
use Rattle.vr_header.specs.Made.{Whole}
use Rattle.vr_header.specs.Bodies.{operation_bytes}
use Rattle.vr_header.specs.Names.{root_header}
use Rattle.vr_header.specs.NoCollision.{NoCollision}
use Rattle.vr_header.specs.Spelling.{IsHeader, named_bytes}
use Rattle.vr_msg.specs.declared.event.Event.{Event}
use Rattle.vr_msg.specs.declared.event.Event.TheVariants as event
use Rattle.vr_msg.specs.declared.frame.Frame.{Frame}
use Rattle.vr_msg.specs.declared.frame.Frame.TheVariants as frame
use Rattle.vr_msg.specs.declared.output.Chosen.{Chosen}
use Rattle.vr_msg.specs.declared.output.Output.{Output}
use Rattle.vr_msg.specs.declared.output.Output.TheVariants as output
use Rattle.vr_msg.specs.declared.reply.ReplyFields.{ReplyFields}
use Rattle.vr_msg.specs.declared.statement.Statement.{Statement}
use Rattle.vr_msg.specs.Choice.{IsIntact, denies, top_commit, top_view}
use Rattle.vr_state.specs.declared.texts.Texts.{Texts}
use Rattle.vr_world.specs.Lying.{Lying}
use Rattle.vr_rings.specs.Slots.{whole_in}
use Rattle.vr_ckpt.specs.Blocks.{Content, block_header, block_of, named}
use Rattle.vr_ckpt.specs.Grid.{named_at}
use Rattle.vr_ckpt.specs.declared.name.Name.{Name}
use Rattle.vr_ckpt.specs.Saves.{written}
use Rattle.vr_ckpt.specs.declared.table.PayloadTable.{PayloadTable}
use Rattle.vr_rules.specs.Steps.{Effect, Write, Checkpoint, PutBlock}
use Rattle.vr_world.specs.Commitment.{Evidence, Vouches, IsCommitted, AreCommitted, IsBackedMessage, IsLine, IsReplyOf, is_line_of, lines_by}
use Rattle.vr_world.specs.Storing.{done_in, run_stored, stored_from, until_said}
use Rattle.vr_rules.specs.Replica.{Replica, statement_of}
use Rattle.vr_world.specs.Group.{Move, Steps, Cuts, Crashes, Recovers, RecoversCut, Migrates, MigratesCut, Played}

-- ---- what was put out

-- all outputs of a run, in order
unfoldable pub run_outputs : List Played → List Output
run_outputs [] = []
run_outputs (p ∷ ps) = p.moved.outputs ++ run_outputs ps

-- an output of a run: at move `move` of it, the output of that number
pub record IsOutput (run : List Played) (move number : ℕ) (p : Played) (o : Output) : Type 0 where
  pub at : slice_get run move ≡ Some p
  pub is : slice_get p.moved.outputs number ≡ Some o

-- what was put out and stored in a run
abbrev pub evidence : List Played → Evidence
evidence run = record { outputs = run_outputs run; stored = run_stored run }

-- what was put out and stored before it
abbrev pub before : List Played → ℕ → ℕ → Played → Evidence
before run move number p = record {
  outputs = run_outputs (take move run) ++ take number p.moved.outputs;
  stored = run_stored (take move run) ++ stored_from p.before (until_said number (done_in p.move p.moved.script));
}

-- ---- a committed entry keeps its number in every later view

abbrev pub CarriesEntry : ℕ → Header → Frame → Type 0
CarriesEntry view c (frame.Prepare p) = view < p.view → p.entry.header.op ≡ c.op → p.entry.header ≡ c
CarriesEntry view c (frame.StartView v) = view < v.view → v.body.lo < c.op → c.op ≤ v.head → slice_get v.body.headers (c.op - (v.body.lo + 1)) ≡ Some c
CarriesEntry view c (frame.SyncView v) = view < v.view → v.body.lo < c.op → c.op ≤ v.head → slice_get v.body.headers (c.op - (v.body.lo + 1)) ≡ Some c
CarriesEntry view c _ = ⊤

-- of an entry that is committed in a view: what is said in a later one
abbrev pub KeepsEntry : ℕ → Header → Output → Type 0
KeepsEntry view c (output.Send s) = CarriesEntry view c s.message
KeepsEntry view c (output.Choose l) = view < l.view → c.op ≤ l.head
KeepsEntry view c _ = ⊤

-- ---- replies

-- the replica that a step begins with
abbrev pub actor : Played → ℕ → Option Replica
actor p index = option_map_or (λ m. m.replica) (slice_get p.before.members index) None

-- So many had it applied when it answered: those before the step, and those of the step's commit lines before the reply. A
-- commit line that stands last is of the entry whose reply comes right after it, and that is answered after the entries before it.
abbrev pub applied_then : ℕ → Replica → List Output → ℕ
applied_then index r said =
    r.applied + lines_by index said - (if list_any (is_line_of index) (drop (length said - 1) said) then 1 else 0)

-- what was applied is committed, and a reply is the plain sessions' and machine's over it
pub record IsTrueReply (cluster n : ℕ) (log : List Whole) (run : List Played) (move number : ℕ) (p : Played) (a : ReplyFields) : Type 0 where
  pub replica : Replica
  pub is_of : actor p a.replica ≡ Some replica
  pub applied : AreCommitted cluster n (before run move number p) log a.view (replica.applied + lines_by a.replica (take number p.moved.outputs))
  pub said : IsReplyOf log (replica.applied + lines_by a.replica (take number p.moved.outputs)) (applied_then a.replica replica (take number p.moved.outputs)) a a.kind

-- ---- only a nack quorum shortens a log

-- the disks that a move reads
abbrev pub disks_of : Move → List Lying
disks_of (Steps at arrival e disk) = disk ∷ []
disks_of (Cuts at arrival e disk effects) = disk ∷ []
disks_of (Crashes at) = []
disks_of (Recovers at value disk) = disk ∷ []
disks_of (RecoversCut at value disk effects) = disk ∷ []
disks_of (Migrates at value) = []
disks_of (MigratesCut at value effects) = []

-- the event of a move
abbrev pub event_of : Move → Option Event
event_of (Steps at arrival e disk) = Some e
event_of (Cuts at arrival e disk effects) = Some e
event_of (Crashes at) = None
event_of (Recovers at value disk) = None
event_of (RecoversCut at value disk effects) = None
event_of (Migrates at value) = None
event_of (MigratesCut at value effects) = None

-- the statement that an event brings of this replica
abbrev pub brought_in : ℕ → Frame → Option Statement
brought_in i (frame.DoViewChange d) = if d.replica == i then Some d.statement else None
brought_in i _ = None

abbrev pub brought : ℕ → Event → Option Statement
brought i (event.Deliver message) = brought_in i message
brought i (event.Request q) = None
brought i event.Tick = None

abbrev pub or_else : Option Statement → Option Statement → Option Statement
or_else (Some s) other = Some s
or_else None other = other

-- What a replica that chooses the log of a view has heard of replica i: its own statement; the one that the event brings; or
-- the one that it had before, where it didn't enter the view only in this step.
abbrev pub heard_from : ℕ → Event → Replica → ℕ → Option Statement
heard_from view e r i =
    if i == r.index then Some (statement_of r)
    else or_else (brought i e) (if r.view == view then slice_index_or r.statements i None else None)

unfoldable pub all_heard : ℕ → Event → Replica → List Statement
all_heard view e r = filter_map (heard_from view e r) (range_with_len 0 r.n)

-- one that denies an op, and vouches for nothing there in the log's view, in the whole run
pub record IsDenier (n : ℕ) (by : Evidence) (heard : List Statement) (log_view op i : ℕ) (s : Option Statement) : Type 0 where
  pub statement : Statement
  pub stated : s ≡ Some statement
  pub denies : denies heard op statement ≡ true
  pub silent : (c : Header) → c.op ≡ op → ¬ Vouches n by log_view i c

-- A choice of a log, from what was heard: its log view and its commit number are the greatest there, each op above that commit number is
-- intact, and a nack quorum denies the next.
pub record IsJustified (n : ℕ) (by : Evidence) (p : Played) (l : Chosen) : Type 0 where
  pub replica : Replica
  pub is_of : actor p l.replica ≡ Some replica
  pub event : Event
  pub by_event : event_of p.move ≡ Some event
  pub log_view : l.log_view ≡ top_view (all_heard l.view event replica)
  pub commit : l.commit ≡ top_commit (all_heard l.view event replica)
  pub reach : l.commit ≤ l.head
  pub intact : (k : ℕ) → l.commit < k → k ≤ l.head → IsIntact (all_heard l.view event replica) k
  pub deniers : Replicas
  pub enough : option_map_or (λ q. q.nack) (quorums_of n) 0 ≤ size deniers
  pub each : (i : ℕ) → has_replica deniers i ≡ true → IsDenier n by (all_heard l.view event replica) l.log_view (l.head + 1) i (heard_from l.view event replica i)

-- ---- all together

-- each output is backed by those before it, and by the log
abbrev pub IsBacked : ℕ → ℕ → List Whole → List Played → ℕ → ℕ → Played → Output → Type 0
IsBacked cluster n log run move number p (output.Send s) = IsBackedMessage cluster n (before run move number p) log s.message
IsBacked cluster n log run move number p (output.Commit c) = IsLine cluster n (before run move number p) log c
IsBacked cluster n log run move number p (output.Reply a) = IsTrueReply cluster n log run move number p a
IsBacked cluster n log run move number p (output.Choose l) = IsJustified n (evidence run) p l
IsBacked cluster n log run move number p _ = ⊤

-- What a disk may give: the entries of its slots, as its version has them, and the contents of its blocks, each by the bytes that have a name.
pub data IsRead (d : Lying) : List ℕ → Type 0 where
  header : (slot : ℕ) (e : Whole) → whole_in d.version d.face slot ≡ Some e → IsRead d (named_bytes e.header)
  operation : (slot : ℕ) (e : Whole) → whole_in d.version d.face slot ≡ Some e → IsRead d (operation_bytes e.operation)
  block : (name : Name) (c : Content) → named_at d.face name ≡ Some c → IsRead d (named_bytes (block_header c))
  payload : (name : Name) (c : Content) → named_at d.face name ≡ Some c → IsRead d c.payload

-- what an effect hashes: an entry that is written, the blocks of a checkpoint, and one that was given
pub data IsWritten : Effect → List ℕ → Type 0 where
  header : (again : Bool) (e : Whole) → IsWritten (Write again e) (named_bytes e.header)
  operation : (again : Bool) (e : Whole) → IsWritten (Write again e) (operation_bytes e.operation)
  block : (cluster : ℕ) (texts : Texts) (op : ℕ) (old : PayloadTable) (c : Content) → Contains (written cluster texts op old) (block_of c)
      → IsWritten (Checkpoint cluster texts op old) (named_bytes (block_header c))
  payload : (cluster : ℕ) (texts : Texts) (op : ℕ) (old : PayloadTable) (c : Content) → Contains (written cluster texts op old) (block_of c)
      → IsWritten (Checkpoint cluster texts op old) c.payload
  put : (name : Name) (bytes : List ℕ) (c : Content) → named name bytes ≡ Some c → IsWritten (PutBlock name bytes) (named_bytes (block_header c))
  given : (name : Name) (bytes : List ℕ) (c : Content) → named name bytes ≡ Some c → IsWritten (PutBlock name bytes) c.payload

-- The bytes that were hashed for names in play: those of whatever a member read or wrote in the run, also in a step that was
-- cut, and of one more header. An entry may be committed though no prepare of it was sent, by replicas that found it stored and
-- by those to which these gave it.
pub data IsHashed (run : List Played) (c : Header) : List ℕ → Type 0 where
  read : (p : Played) (d : Lying) (bytes : List ℕ) → Contains run p → Contains (disks_of p.move) d → IsRead d bytes → IsHashed run c bytes
  wrote : (p : Played) (e : Effect) (bytes : List ℕ) → Contains run p → Contains p.moved.script e → IsWritten e bytes → IsHashed run c bytes
  given : IsHashed run c (named_bytes c)

-- A run of a group of n replicas with this number: there is one log.
pub record Safe (cluster n : ℕ) (run : List Played) : Type 0 where
  pub log : List Whole
  -- an entry that is committed is the log's at its number, where names don't collide
  pub one : (view : ℕ) (c : Header) → IsHeader c → NoCollision (IsHashed run c) → 0 < c.op → IsCommitted cluster n (evidence run) view c → (e : Whole) × (slice_get log (c.op - 1) ≡ Some e) × (e.header ≡ c)
  pub backed : (move number : ℕ) (p : Played) (o : Output) → NoCollision (IsHashed run (root_header cluster)) → IsOutput run move number p o → IsBacked cluster n log run move number p o
  -- and what is said in later views has it, too
  pub kept : (view : ℕ) (c : Header) → IsHeader c → NoCollision (IsHashed run c) → 0 < c.op → IsCommitted cluster n (evidence run) view c → (move number : ℕ) (p : Played) (o : Output) → IsOutput run move number p o → KeepsEntry view c o
