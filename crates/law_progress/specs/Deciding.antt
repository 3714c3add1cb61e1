-- What a view change makes of a quorum that is whole: the choice of a log ends, and a member with the greatest checkpoint may take that log.
use Rattle.std.specs.Prelude.{ℕ, ◌<◌, ◌≤◌, ◌≡◌, true, false, List, [], ◌∷◌, length, map, All, Contains, Some}
use Rattle.vr_base.specs.declared.kind.Kind.{Kind}
use Rattle.vr_base.specs.declared.table.Quorums.{Quorums}
use Rattle.vr_base.specs.Groups.{quorums_of}
use Rattle.vr_choose.specs.Laws.{NamesAgree}
use Rattle.vr_header.specs.declared.header.Header.{Header}
use Rattle.vr_msg.specs.declared.choice.Choice.TheVariants.{Ends}
use Rattle.vr_msg.specs.declared.statement.Statement.{Statement}
use Rattle.vr_msg.specs.Choice.{choice}
use Rattle.vr_rules.specs.Opening.{IsKind, fresh}
use Rattle.vr_rules.specs.Replica.{Replica, is_primary, is_started, statement_of}
use Rattle.vr_rules.specs.Rules.{with_statement}
use Rattle.vr_rules.specs.Steps.{Setting}
use Rattle.vr_rules.specs.Words.{begin_view, chosen_log, entered, is_chain, may_take, stated, try}
use Rattle.law_progress.specs.Whole.{Holder, IsMemberOf, IsSure, IsWhole, KnowsItsCheckpoint, replicas_of, top_checkpoint}

-- what these replicas state of their logs, each as it is when it states it
abbrev pub statements : List Replica → List Statement
statements rs = map statement_of rs

-- members whose statements a choice is made from: at least a view-change quorum of one group
pub record AreHeard (file cluster n : ℕ) (q : Quorums) (rs : List Replica) : Type 0 where
  pub quorums : quorums_of n ≡ Some q
  pub enough : q.view_change ≤ length rs
  pub members : All (IsMemberOf file cluster n) rs

-- ---- the choice

-- Where none of them is in doubt of an op above their greatest checkpoint, the choice doesn't wait. Those of the greatest log view agree on their headers,
-- as they do in every run, since each view has one log.
abbrev pub SureQuorumsDecide : Type 0
SureQuorumsDecide =
    (file cluster n : ℕ) (q : Quorums) (rs : List Replica) → AreHeard file cluster n q rs → NamesAgree (statements rs) → All (IsSure (top_checkpoint rs)) rs
    → (headers : List Header) × (choice q (statements rs) ≡ Ends headers)

-- ---- who may take what is chosen

-- One of them that has the greatest checkpoint, knows the header of its op, and isn't started in its view: there is room for the log in its
-- window, and the log reaches down to what it knows to be committed. So it may take it, where its headers are a chain.
abbrev pub FurthestMembersTake : Type 0
FurthestMembersTake =
    (file cluster n : ℕ) (q : Quorums) (rs : List Replica) (r : Replica) (headers : List Header) (hash : List ℕ → List ℕ) → AreHeard file cluster n q rs
    → Contains rs r → r.checkpoint ≡ top_checkpoint rs → KnowsItsCheckpoint r → r.log_view < r.view → choice q (statements rs) ≡ Ends headers
    → may_take hash (chosen_log r (statements rs) headers) r ≡ is_chain hash headers

-- ---- of a quorum that is whole

-- what is decided of it, with this member
pub record Decides (q : Quorums) (rs : List Replica) (r : Replica) : Type 0 where
  pub headers : List Header
  pub ends : choice q (statements rs) ≡ Ends headers
  pub takes : (hash : List ℕ → List ℕ) → r.log_view < r.view → may_take hash (chosen_log r (statements rs) headers) r ≡ is_chain hash headers

-- Whichever of its members are heard, as long as they are enough, and the one with the greatest checkpoint is among them.
abbrev pub WholeQuorumsDecide : Type 0 → Type 0
WholeQuorumsDecide F =
    (s : Setting F) (members : List (Holder F)) (file cluster n : ℕ) (q : Quorums) (rs : List Replica) (w : IsWhole s members) → AreHeard file cluster n q rs
    → NamesAgree (statements rs) → All (Contains (replicas_of members)) rs → Contains rs w.furthest.replica → Decides q rs w.furthest.replica

-- So it begins its view when it tries, where it is the view's primary, isn't started, has just these statements, and the headers of the log that they
-- decide are a chain.
abbrev pub WholeQuorumsBegin : Type 0 → Type 0
WholeQuorumsBegin F =
    (s : Setting F) (f : F) (members : List (Holder F)) (file cluster n : ℕ) (q : Quorums) (rs : List Replica) (w : IsWhole s members) → AreHeard file cluster n q rs
    → NamesAgree (statements rs) → All (Contains (replicas_of members)) rs → Contains rs w.furthest.replica
    → let r = w.furthest.replica in
    is_primary r ≡ true → is_started r ≡ false → stated r ≡ statements rs
    → ((headers : List Header) → choice q (stated r) ≡ Ends headers → is_chain s.hash headers ≡ true)
    → (headers : List Header) × (choice q (stated r) ≡ Ends headers) × (try s r f ≡ begin_view (stated r) (chosen_log r (stated r) headers) s r f)

-- ---- there is such a quorum

-- Of a new group of three members 0 and 1 have entered view 1, and member 1, its primary, has member 0's statement.
abbrev pub stater : Kind → Replica
stater kind = entered 1 (fresh kind 0 3 0)

abbrev pub candidate : Kind → Replica
candidate kind = with_statement 0 (statement_of (stater kind)) (entered 1 (fresh kind 0 3 1))

-- These two are whole together, on any disks, and the second begins its view.
abbrev pub ANewQuorumBegins : Type 0 → Type 0
ANewQuorumBegins F =
    (kind : Kind) → IsKind kind → (s : Setting F) (f g : F)
    → let r = candidate kind in
    IsWhole s (record { replica = stater kind; disk = f } ∷ record { replica = r; disk = g } ∷ [])
    × (try s r g ≡ begin_view (stated r) (chosen_log r (stated r) []) s r g)
