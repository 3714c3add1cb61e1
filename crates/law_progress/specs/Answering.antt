-- The normal case: a group of which a primary and enough backups lag in nothing, and the lines by which it answers a request.
use Rattle.std.specs.Prelude.{ℕ, ◌+◌, ◌-◌, ◌*◌, ◌<◌, ◌≤◌, ◌≡◌, ◌≢◌, ◌⊎◌, ⊤, true, false, nat_lt, List, [], ◌∷◌, length, slice_get, All, Contains, Some, None, if◌then◌else◌}
use Rattle.std.specs.List.{range_with_len}
use Rattle.vr_base.specs.Groups.{least_members}
use Rattle.vr_base.specs.Replicas.{no_replicas}
use Rattle.vr_base.specs.Versions.{by_version}
use Rattle.vr_base.specs.declared.kind.Kind.{Kind}
use Rattle.vr_state.specs.Asks.{is_fresh}
use Rattle.vr_state.specs.Folds.{outcome_of}
use Rattle.vr_disk.specs.Regions.{sectors}
use Rattle.vr_header.specs.Names.{name_by}
use Rattle.vr_msg.specs.Normal.{last_op, primary}
use Rattle.vr_msg.specs.declared.frame.Frame.TheVariants as frame
use Rattle.vr_msg.specs.declared.output.Output.{Output}
use Rattle.vr_msg.specs.declared.output.Output.TheVariants as output
use Rattle.vr_msg.specs.declared.reply.ReplyKind.TheVariants as reply
use Rattle.vr_msg.specs.declared.request.RequestFields.{RequestFields}
use Rattle.vr_rules.specs.Deciding.{session_answer}
use Rattle.vr_rules.specs.Laws.{IsMessage}
use Rattle.vr_world.specs.Lying.{Lying, hazards, lying}
use Rattle.vr_rules.specs.Opening.{IsKind, fresh}
use Rattle.vr_rules.specs.Replica.{Replica, ackers_at, head, head_header, is_frozen, replication, version, window_end}
use Rattle.vr_rules.specs.Rules.{asker_by, next_entry}
use Rattle.vr_rules.specs.Sound.{IsSound}
use Rattle.vr_world.specs.World.{Arrives, Asks, AsksInVersion, Happening, World, fresh_world, happen}

-- ---- the members

-- a sound replica of a world, by its place, that runs on a disk with no fuse, and whose views and sequence numbers haven't ended
pub record Runs {F : Type 0} (w : World F) (at : ℕ) (r : Replica) (f : F) : Type 0 where
  pub member : slice_get w.members at ≡ Some (record { replica = Some r; disk = f; fuse = None })
  pub index : r.index ≡ at
  pub size : r.n ≡ w.n
  pub sound : IsSound r
  pub awake : is_frozen r ≡ false

-- The primary of a view that it is started in, that lags in nothing: it has its state, has applied all that its log has, and nobody has
-- acknowledged anything above that. Ops haven't ended.
pub record LeadsLevel (r : Replica) : Type 0 where
  pub started : r.view ≡ r.log_view
  pub leads : r.index ≡ primary r.n r.view
  pub loaded : r.missing ≡ []
  pub applied : r.applied ≡ r.commit
  pub level : head r ≡ r.commit
  pub unheard : ackers_at r (head r + 1) ≡ no_replicas
  pub room : head r < last_op

-- A backup that lags in nothing this primary has: it is of its group, on a file of its version, started in its view, and its log ends with the same
-- entry. There is room for the next one in its window.
pub record FollowsLevel (hash : List ℕ → List ℕ) (r b : Replica) : Type 0 where
  pub of_version : version b ≡ version r
  pub of_group : b.cluster ≡ r.cluster
  pub view : b.view ≡ r.view
  pub started : b.log_view ≡ r.view
  pub level : head b ≡ head r
  pub same : name_by hash (head_header hash b) ≡ name_by hash (head_header hash r)
  pub room : head r < window_end b

-- a request of this primary's group and version that is a new one of its client's session
pub record IsNew (q : RequestFields) (r : Replica) : Type 0 where
  pub form : IsMessage (frame.Request q)
  pub of_version : q.version ≡ version r
  pub of_group : q.cluster ≡ r.cluster
  pub fresh : is_fresh (session_answer q r) ≡ true

-- ---- the group

-- another member of the world follows
pub record HasBackup {F : Type 0} (hash : List ℕ → List ℕ) (w : World F) (p : ℕ) (r : Replica) (at : ℕ) : Type 0 where
  pub other : at ≢ p
  pub replica : Replica
  pub disk : F
  pub runs : Runs w at replica disk
  pub follows : FollowsLevel hash r replica

abbrev pub AreDistinct : List ℕ → Type 0
AreDistinct [] = ⊤
AreDistinct (x ∷ xs) = ¬ Contains xs x × AreDistinct xs

-- With the primary p and these backups a replication quorum lags in nothing. The others may lag, or be stopped.
pub record IsLevel {F : Type 0} (hash : List ℕ → List ℕ) (w : World F) (p : ℕ) (backups : List ℕ) : Type 0 where
  pub replica : Replica
  pub disk : F
  pub runs : Runs w p replica disk
  pub leads : LeadsLevel replica
  pub follow : All (HasBackup hash w p replica) backups
  pub distinct : AreDistinct backups
  pub enough : replication w.n ≤ length backups + 1

-- ---- the lines

-- where a member stands among all but p, ascending
abbrev pub place_beside : ℕ → ℕ → ℕ
place_beside p at = if nat_lt at p then at else at - 1

-- With the first of the primary's prepares at one number, and the next message at another: each backup's prepare is delivered, and then its
-- acknowledgement, which is the next message.
unfoldable pub rounds : ℕ → ℕ → ℕ → List ℕ → List Happening
rounds p first next [] = []
rounds p first next (b ∷ bs) = Arrives (first + place_beside p b) ∷ Arrives next ∷ rounds p first (next + 1) bs

-- a client asks this member for it
abbrev pub IsAsk : ℕ → RequestFields → Happening → Type 0
IsAsk p q line = (line ≡ Asks p q) ⊎ (line ≡ AsksInVersion p q)

-- the line by which it asks the primary; then the deliveries, of two messages for each backup. No clock ticks.
unfoldable pub normal_lines : {F : Type 0} → World F → Happening → ℕ → List ℕ → List Happening
normal_lines w ask p backups = ask ∷ rounds p (length w.sent) (length w.sent + (w.n - 1)) backups

-- ---- the law

-- the primary's reply to a request: the outcome of its operation in the primary's state, at the op after its head
abbrev pub answer : (List ℕ → List ℕ) → RequestFields → Replica → Output
answer hash q r =
    output.Reply (record {
      version = version r;
      cluster = r.cluster;
      replica = r.index;
      view = r.view;
      client = q.client;
      request = q.request;
      request_name = (asker_by hash q).name;
      kind = reply.Outcome (record { op = head r + 1; outcome = outcome_of r.state (next_entry hash q r) });
    })

-- So many lines, and the reply is among what they put out: of a world of any size whose disks may lie, where the primary's disk has all its
-- sectors, with a file that takes entries of its version.
abbrev pub RequestsAreAnswered : Type 0
RequestsAreAnswered =
    (w : World Lying) (q : RequestFields) (ask : Happening) (p : ℕ) (backups : List ℕ) → IsAsk p q ask → (l : IsLevel lying.hash w p backups) → IsNew q l.replica
    → length l.disk.face.cells ≡ sectors → version l.replica ≤ by_version l.disk.version 1 2
    → (length (normal_lines w ask p backups) ≡ 2 * length backups + 1) × Contains (happen hazards w (normal_lines w ask p backups)).outputs (answer lying.hash q l.replica)

-- So it is in a new group of every size, on files of either version: the request by which a client begins its first session is answered by the primary
-- of view 0, with the next replication - 1 members as backups.
abbrev pub NewGroupsAnswer : Type 0
NewGroupsAnswer =
    (kind : Kind) (n : ℕ) (q : RequestFields) (ask : Happening) → IsKind kind → least_members kind.version ≤ n → n ≤ 6 → IsAsk 0 q ask
    → IsMessage (frame.Request q) → q.version ≡ kind.version → q.cluster ≡ 0 → q.request ≡ 0
    → let w = fresh_world hazards kind n in
    Contains (happen hazards w (normal_lines w ask 0 (range_with_len 1 (replication n - 1)))).outputs (answer lying.hash q (fresh kind 0 n 0))
