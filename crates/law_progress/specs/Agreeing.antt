-- What members of a run have heard of logs is of one log a view, and what they choose from it is a chain.
use Rattle.std.specs.Prelude.{ℕ, ◌^◌, ◌<◌, ◌≤◌, ◌≡◌, ◌⊎◌, true, false, List, All, Contains, slice_get, slice_index_or, Option, None, Some}
use Rattle.vr_base.specs.declared.kind.Kind.{Kind}
use Rattle.vr_base.specs.declared.table.Quorums.{Quorums}
use Rattle.vr_base.specs.Groups.{quorums_of}
use Rattle.vr_choose.specs.Laws.{NamesAgree}
use Rattle.vr_header.specs.declared.header.Header.{Header}
use Rattle.vr_msg.specs.Choice.{choice}
use Rattle.vr_msg.specs.declared.choice.Choice.TheVariants.{Ends}
use Rattle.vr_msg.specs.declared.frame.DoViewChange.{DoViewChange}
use Rattle.vr_msg.specs.declared.frame.Frame.TheVariants as frame
use Rattle.vr_msg.specs.declared.output.Sent.{Sent}
use Rattle.vr_msg.specs.declared.statement.Statement.{Statement}
use Rattle.vr_world.specs.Group.{Group, Member, Played, Run, fresh_group}
use Rattle.vr_world.specs.GroupFit.{IsFitMove}
use Rattle.vr_world.specs.Lying.{Lying, lying}
use Rattle.vr_rules.specs.Opening.{AreKinds}
use Rattle.vr_rules.specs.Replica.{Replica, is_frozen, is_primary, is_started}
use Rattle.vr_rules.specs.Sound.{IsSound}
use Rattle.vr_rules.specs.Words.{begin_view, chosen_log, is_chain, stated, try}
use Rattle.law_progress.specs.Deciding.{AreHeard, statements}
use Rattle.law_progress.specs.Whole.{Holder, IsWhole, replicas_of}

-- ---- of a replica, by the statements that it has for its view, its own among them

pub record HearsOneLog (r : Replica) : Type 0 where
  -- those of the greatest log view agree on their headers
  pub agree : NamesAgree (stated r)
  -- where it isn't started, the headers of the log that they decide are a chain
  pub chain : (q : Quorums) (headers : List Header) → r.log_view < r.view → quorums_of r.n ≡ Some q → choice q (stated r) ≡ Ends headers → is_chain lying.hash headers ≡ true

-- It begins its view when it tries, where it is the view's primary and isn't started, and has just these statements: of enough members of a quorum
-- that is whole, itself the furthest of them. So it is on any disk.
pub record BeginsByWhole (r : Replica) : Type 0 where
  pub begins : (d : Lying) (members : List (Holder Lying)) (file cluster n : ℕ) (q : Quorums) (rs : List Replica) (w : IsWhole lying members) → w.furthest.replica ≡ r
      → AreHeard file cluster n q rs → All (Contains (replicas_of members)) rs → Contains rs r → is_primary r ≡ true → is_started r ≡ false → stated r ≡ statements rs
      → (headers : List Header) × (choice q (stated r) ≡ Ends headers) × (try lying r d ≡ begin_view (stated r) (chosen_log r (stated r) headers) lying r d)

-- ---- of a group

-- a statement of replica j for this view that was sent in the group
pub record WasSent (g : Group) (j view : ℕ) (t : Statement) : Type 0 where
  pub told : DoViewChange
  pub sent : Sent
  pub there : Contains g.sent sent
  pub is : sent.message ≡ frame.DoViewChange told
  pub by : told.replica ≡ j
  pub for_view : told.view ≡ view
  pub states : told.statement ≡ t

-- by replicas: each statement is one that r has, or one that was sent for its view, as when it arrives
abbrev pub MayHear : Group → Replica → List (Option Statement) → Type 0
MayHear g r ss =
    (j : ℕ) (t : Statement) → slice_index_or ss j None ≡ Some t → (slice_index_or r.statements j None ≡ Some t) ⊎ WasSent g j r.view t

-- each running replica whose views and sequence numbers haven't ended, with what it has heard, or may hear next
abbrev pub EachHearer : (Replica → Type 0) → Group → Type 0
EachHearer P g =
    (at : ℕ) (m : Member) (r : Replica) (ss : List (Option Statement)) → slice_get g.members at ≡ Some m → m.replica ≡ Some r → is_frozen r ≡ false
    → MayHear g r ss → IsSound (record r { statements = ss }) → P (record r { statements = ss })

-- after each move of a run of a group that was just made, where what moves read has the forms of the program
abbrev pub InEachRun : (Replica → Type 0) → Type 0
InEachRun P =
    (kinds : ℕ → Kind) (cluster n : ℕ) (run : List Played) → AreKinds kinds n → cluster < 2 ^ 64 → 1 ≤ n → n ≤ 6 → All (λ p. IsFitMove p.move) run
    → Run (fresh_group kinds cluster n) run → All (λ p. EachHearer P p.moved.group) run
