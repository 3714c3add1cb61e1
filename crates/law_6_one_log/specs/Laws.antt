-- One log: of every run of a group that was just made, and of every schedule of a group on disks that lie.
use Rattle.vr_base.specs.Groups.{least_members}
use Rattle.vr_base.specs.declared.kind.Kind.{Kind}
use Rattle.vr_rules.specs.Opening.{AreKinds, IsKind}
use Rattle.std.specs.Prelude.{ℕ, ◌-◌, ◌^◌, ◌<◌, ◌≤◌, ◌≡◌, ◌⊎◌, false, List, ◌∷◌, length, Contains, slice_get, take, Some}
use Rattle.std.specs.List.{AllByRecursion}
use Rattle.vr_header.specs.declared.header.Header.{Header}
use Rattle.vr_header.specs.Bodies.{operation_bytes}
use Rattle.vr_header.specs.Made.{Whole}
use Rattle.vr_header.specs.Names.{root_header}
use Rattle.vr_header.specs.NoCollision.{NoCollision}
use Rattle.vr_header.specs.Spelling.{IsHeader}
use Rattle.vr_msg.specs.declared.output.Chosen.{Chosen}
use Rattle.vr_msg.specs.declared.output.Committed.{Committed}
use Rattle.vr_msg.specs.declared.output.Output.{Output}
use Rattle.vr_msg.specs.declared.output.Output.TheVariants as output
use Rattle.vr_world.specs.Commitment.{IsCommitted}
use Rattle.vr_rings.specs.Slots.{IsWhole}
use Rattle.vr_world.specs.Group.{Group, Member, Played, Runs, fresh_group}
use Rattle.vr_world.specs.Lying.{Lying, hazards}
use Rattle.vr_rules.specs.Replica.{Replica, header_at, is_frozen}
use Rattle.vr_world.specs.Safe.{IsHashed, KeepsEntry, Safe}
use Rattle.vr_world.specs.World.{Happened, Happening, Begins, fresh_world, happen, no_world}
use Rattle.law_4_disks.specs.Worlds.{IsLine, IsMatched, first_world}
use Rattle.law_6_one_log.specs.Schedules.{IsHashedOf, MayAll, room}
use Rattle.law_3_outputs.specs.Answering.{HasState}
use Rattle.law_3_outputs.specs.Followed.{IsFitRun}
use Rattle.law_6_one_log.specs.Outputs.{IsCutByNacks, IsOnceInSession, RestsOn, counts_in}

-- 1 to 6 replicas, whatever is delivered, stopped, cut, started, migrated and read, where what moves read has the forms of the program
abbrev pub RunsAreSafe : Type 0
RunsAreSafe = (cluster n : ℕ) (run : List Played) → IsFitRun cluster n run → Safe cluster n run

-- the bytes that were hashed in the run, and these
abbrev pub IsHashedOr : ℕ → List Played → List ℕ → List ℕ → Type 0
IsHashedOr cluster run operation bytes = IsHashed run (root_header cluster) bytes ⊎ (bytes ≡ operation)

-- What a replica knows of an op up to its commit number is the log's: the header; and so each whole entry of that header, where the name of
-- its operation tells it from those of the run.
pub record IsOfLog (cluster : ℕ) (run : List Played) (log : List Whole) (r : Replica) : Type 0 where
  pub known : (k : ℕ) (h : Header) → 0 < k → k ≤ r.commit → header_at r k ≡ Some h → (e : Whole) × (slice_get log (k - 1) ≡ Some e) × (e.header ≡ h)
  pub read : (w : Whole) → IsWhole w → 0 < w.header.op → w.header.op ≤ r.commit → header_at r w.header.op ≡ Some w.header → NoCollision (IsHashedOr cluster run (operation_bytes w.operation))
      → slice_get log (w.header.op - 1) ≡ Some w

-- The state of each running member that misses no block is the plain fold of the log's first entries, as many as it has applied: whether it
-- applied them itself or loaded a checkpoint, one that it made, or took over from another. Nothing is said of one that is frozen: its view or
-- its sequence numbers are at their end, and it ignores every event.
abbrev pub HaveFolds : List Whole → Group → Type 0
HaveFolds log g = (at : ℕ) (m : Member) (r : Replica) → Runs g at m r → is_frozen r ≡ false → HasState log r

-- the log of a safe run is what each running member has before and after each move, and its state is made of it, where names don't collide
pub record HasOneLog (cluster n : ℕ) (run : List Played) : Type 0 where
  pub safe : Safe cluster n run
  pub before : (t : ℕ) (p : Played) → slice_get run t ≡ Some p → (at : ℕ) (m : Member) (r : Replica) → Runs p.before at m r → IsOfLog cluster run safe.log r
  pub after : (t : ℕ) (p : Played) → slice_get run t ≡ Some p → (at : ℕ) (m : Member) (r : Replica) → Runs p.moved.group at m r → IsOfLog cluster run safe.log r
  pub folds : NoCollision (IsHashed run (root_header cluster)) → (t : ℕ) (p : Played) → slice_get run t ≡ Some p → HaveFolds safe.log p.before × HaveFolds safe.log p.moved.group

abbrev pub ReplicasHaveOneLog : Type 0
ReplicasHaveOneLog = (cluster n : ℕ) (run : List Played) → IsFitRun cluster n run → HasOneLog cluster n run

-- What happened to a group of this number is a safe run of it. So its outputs, in the order in which they were put out, are of that run's log. What is said
-- of an entry of any header is so where that header's name isn't another text's.
pub record KeepsLog (kinds : ℕ → Kind) (cluster n : ℕ) (h : Happened Lying) : Type 0 where
  pub matched : IsMatched (fresh_group kinds cluster n) h
  pub safe : Safe cluster n matched.run
  -- names of what the run read and wrote don't collide
  pub names : NoCollision (IsHashed matched.run (root_header cluster))
  -- the state of each running replica is the plain fold of the log, also after it has taken over another's checkpoint
  pub folds : (t : ℕ) (p : Played) → slice_get matched.run t ≡ Some p → HaveFolds safe.log p.moved.group
  -- commit lines, the commit numbers of messages, and replies rest on the log, and on what was put out and stored before them
  pub rests : (number : ℕ) (o : Output) → slice_get h.outputs number ≡ Some o → RestsOn cluster n safe.log matched.run (take number h.outputs) o
  -- two commit lines of one number are of one entry
  pub lines : (c d : Committed) → Contains h.outputs (output.Commit c) → Contains h.outputs (output.Commit d)
      → c.entry.header.op ≡ d.entry.header.op → c.entry ≡ d.entry
  -- an entry that is committed is the log's at its number; so two entries that are committed at one number are one
  pub logged : (view : ℕ) (c : Header) → IsHeader c → NoCollision (IsHashed matched.run c) → 0 < c.op → IsCommitted cluster n (counts_in h.outputs matched.run) view c → (e : Whole) × (slice_get safe.log (c.op - 1) ≡ Some e) × (e.header ≡ c)
  pub one : (v w : ℕ) (c d : Header) → IsHeader c → IsHeader d → NoCollision (IsHashed matched.run c) → NoCollision (IsHashed matched.run d) → 0 < c.op → c.op ≡ d.op
      → IsCommitted cluster n (counts_in h.outputs matched.run) v c → IsCommitted cluster n (counts_in h.outputs matched.run) w d → c ≡ d
  -- and keeps its number in every later view: what is prepared, chosen and taken over there has it
  pub kept : (view : ℕ) (c : Header) → IsHeader c → NoCollision (IsHashed matched.run c) → 0 < c.op → IsCommitted cluster n (counts_in h.outputs matched.run) view c → (o : Output) → Contains h.outputs o → KeepsEntry view c o
  -- only a nack quorum shortens a log
  pub cut : (number : ℕ) (l : Chosen) → slice_get h.outputs number ≡ Some (output.Choose l) → IsCutByNacks n matched.run (take number h.outputs) h.outputs l
  -- in one session no number is executed twice over the log
  pub once : IsOnceInSession safe.log

-- of the group that a schedule begins, on files of one kind
abbrev pub KeepsOneLog : Kind → ℕ → Happened Lying → Type 0
KeepsOneLog kind n h = KeepsLog (λ i. kind) 0 n h

-- of whatever happens to a group that was just made, of any number, each member on a file of a kind of its own: where names don't collide,
-- and it is so short that no log comes near the ops whose headers sessions could spell
abbrev pub WorldsKeepOneLog : Type 0
WorldsKeepOneLog =
    (kinds : ℕ → Kind) (cluster n : ℕ) (xs : List Happening) → AreKinds kinds n → cluster < 2 ^ 64 → 1 ≤ n → n ≤ 6 → length xs < room cluster → AllByRecursion IsLine xs → NoCollision (IsHashedOf cluster (first_world kinds cluster n) xs)
    → KeepsLog kinds cluster n (happen hazards (first_world kinds cluster n) xs)

-- of each list of fewer than 2^60 lines that may happen to the group that a schedule begins
abbrev pub SchedulesKeepOneLog : Type 0
SchedulesKeepOneLog = (kind : Kind) (n : ℕ) (xs : List Happening) → IsKind kind → least_members kind.version ≤ n → n ≤ 6 → length xs < 2 ^ 60 → MayAll (fresh_world hazards kind n) xs → KeepsOneLog kind n (happen hazards no_world (Begins kind n ∷ xs))
