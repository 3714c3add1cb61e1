-- The laws, over what was sent and chosen in a run, and what running members have.
-- An entry is committed where it stands on what is committed before it, in a view at most its own, and a replication quorum has
-- vouched for it in that one view. Each law holds in every state that a run reaches, for any headers and any sizes of quorums.
use Rattle.std.specs.Prelude.{ℕ, suc, ◌≤◌, ◌<◌, ◌≡◌, Bool, true, List, Option, Some, ◌⊎◌}
use Rattle.law_1_machine.specs.Basics.{In}
use Rattle.law_1_machine.specs.Quorums.{Quorums, count}
use Rattle.law_1_machine.specs.Headers.{Headers}
use Rattle.law_1_machine.specs.History.{History, MayCommit, HistoryOk, lagging}
use Rattle.law_1_machine.specs.Growth.{Grow}
use Rattle.law_1_machine.specs.Parts.{header, entries}
use Rattle.law_1_machine.specs.Members.{Memory, Statement, Choice, Message, Prepare, Do_view_change, Start_view, Checkpoint, CommitNumber}
use Rattle.law_1_machine.specs.Group.{Group, Vouches}
use Rattle.law_1_machine.specs.Choosing.{Chosen}
use Rattle.law_1_machine.specs.Claims.{AllTrue, MayBegin}
use Rattle.law_1_machine.specs.Machine.{Running, Step, Reached}
use Rattle.law_1_machine.specs.Invariant.{Invariant}

-- a member that runs on with m' knows each header above its checkpoint that it knew with m, or it has taken over the log of a later view
abbrev pub KnowsStill : {H : Type 0} → Memory H → Memory H → Type 0
KnowsStill {H = H} m m' = (k : ℕ) (h : H) → m'.checkpoint < k → header (m.parts k) ≡ Some h → (header (m'.parts k) ≡ Some h) ⊎ (m.log_view < m'.log_view)

module _ {H : Type 0} (q : Quorums) (hs : Headers H) where
  -- c is committed at k in view u
  pub data Committed (sent : List (Message H)) : ℕ → ℕ → H → Type 0 where
    at_root : Committed sent 0 0 hs.root
    stands_on : (u v k : ℕ) (c d : H) → v ≤ u → Committed sent v k d → hs.follows d c ≡ true
        → (set : ℕ → Bool) → q.replication ≤ count set q.n → ((i : ℕ) → i < q.n → set i ≡ true → Vouches q sent i u (suc k) c) → Committed sent u (suc k) c

  -- c is committed at k in a view at most w: a commit number that reaches k is backed there
  abbrev pub Backed : List (Message H) → ℕ → ℕ → H → Type 0
  Backed sent w k c = (u : ℕ) × (u ≤ w) × Committed sent u k c

  -- what is committed is agreed on
  pub record Agreement (s : Group H) : Type 0 where
    -- at each number at most one entry is committed, over all views
    pub one : (k u v : ℕ) (a b : H) → Committed s.sent u k a → Committed s.sent v k b → a ≡ b
    -- each number up to a commit number in a message of view v is committed in a view at most v
    pub told : (m : Message H) (v c k : ℕ) → CommitNumber m v c → In m s.sent → k ≤ c → (x : H) × Backed s.sent v k x
    -- so is each number up to the commit number of a choice, in a view at most the one whose log it took
    pub chosen : (c : Choice H) (k : ℕ) → In c s.chosen → k ≤ c.commit → (x : H) × Backed s.sent c.log_view k x
    -- each header that a running member knows up to its commit number is committed, in a view at most its own
    pub known : (r : ℕ) (m : Memory H) (k : ℕ) (x : H) → Running q hs s r m → k ≤ m.commit → header (m.parts k) ≡ Some x → Backed s.sent m.log_view k x

  -- once a is committed at k in view u
  pub record Durability (s : Group H) (u k : ℕ) (a : H) : Type 0 where
    -- the log chosen for a later view has it
    pub chosen : (c : Choice H) → In c s.chosen → u < c.view → (k ≤ c.head) × (c.commit < k → c.log k ≡ Some a)
    -- each prepare of that view or a later one at k is of it
    pub prepared : (from v : ℕ) (x : H) (c : ℕ) → In (Prepare from v k x c) s.sent → u ≤ v → x ≡ a
    -- each start_view of a later view reaches k, and has it where it begins below k
    pub started : (from v low head c : ℕ) (headers : ℕ → Option H) → In (Start_view from v low head c headers) s.sent → u < v → (k ≤ head) × (low < k → headers k ≡ Some a)

  -- a choice goes on with the log of an earlier view, and cuts it only where a nack quorum denies the next number
  pub record CutByNacks (s : Group H) (c : Choice H) : Type 0 where
    pub earlier : c.log_view < c.view
    -- the log view is the greatest heard of, and a nack quorum of those heard denies the number after the head
    pub chosen : Chosen q c.heard c.log_view c.commit c.head c.log
    -- what was heard was sent for this view, but for the chooser's own statement
    pub heard_from : (i : ℕ) (t : Statement H) → c.heard i ≡ Some t → In (Do_view_change i c.view t) s.sent ⊎ (i ≡ c.by)
    -- none of those who deny it vouches for anything there in the view whose log was cut
    pub silent : (i : ℕ) → i < q.n → chosen.deniers i ≡ true → (e : H) → Vouches q s.sent i c.log_view (suc c.head) e → ⊥

  -- only nack quorums shorten: each log that anyone goes by began with such a choice, and is no shorter
  pub record Shortening (s : Group H) : Type 0 where
    pub cut : (c : Choice H) → In c s.chosen → CutByNacks s c
    -- what is told of a later view's log
    pub started : (from v low head d : ℕ) (headers : ℕ → Option H) → In (Start_view from v low head d headers) s.sent → 0 < v
        → (c : Choice H) × In c s.chosen × (c.view ≡ v) × (c.head ≤ head) × ((k : ℕ) → c.commit < k → k ≤ c.head → low < k → headers k ≡ c.log k)
    -- what a member knows of it
    pub known : (r : ℕ) (m : Memory H) → Running q hs s r m → 0 < m.log_view
        → (c : Choice H) × In c s.chosen × (c.view ≡ m.log_view) × (c.head ≤ m.head) × ((k : ℕ) → c.commit < k → k ≤ c.head → m.checkpoint < k → header (m.parts k) ≡ c.log k)

  -- l is a list of n committed entries, each of a view at most w
  abbrev pub CommittedList : List (Message H) → ℕ → ℕ → List H → Type 0
  CommittedList sent w n l = (log : ℕ → H) × (l ≡ entries log n) × ((k : ℕ) → 0 < k → k ≤ n → Backed sent w k (log k))

  -- states come from what is committed
  pub record States (s : Group H) : Type 0 where
    -- the state of a running member comes from committed entries
    pub applied : (r : ℕ) (m : Memory H) (l : List H) → Running q hs s r m → m.state ≡ Some l → CommittedList s.sent m.log_view m.applied l
    -- so does each checkpoint that is offered to others
    pub offered : (from v p : ℕ) (root : List H) → In (Checkpoint from v p root) s.sent → CommittedList s.sent v p root

-- ---- the laws

-- every run keeps the invariant
abbrev pub EachRunKeepsTheInvariant : Type 0 → Type 0
EachRunKeepsTheInvariant H = (q : Quorums) (hs : Headers H) (s : Group H) → Reached q hs s → (g : History H) × Invariant q hs g s

-- what was sent, made or chosen stays so: each law below speaks of the whole run up to a state
abbrev pub NothingIsTakenBack : Type 0 → Type 0
NothingIsTakenBack H =
    (q : Quorums) (hs : Headers H) (s s' : Group H) → Step q hs s s'
    → ((m : Message H) → In m s.sent → In m s'.sent) × ((c : Choice H) → In c s.chosen → In c s'.chosen)

-- within a view's log a running member forgets nothing above its checkpoint
abbrev pub KnownHeadersStay : Type 0 → Type 0
KnownHeadersStay H =
    (q : Quorums) (hs : Headers H) (s s' : Group H) → Reached q hs s → Step q hs s s'
    → (r : ℕ) (m m' : Memory H) → Running q hs s r m → Running q hs s' r m' → KnowsStill m m'

-- in each state that a run reaches what is committed is agreed on
abbrev pub CommittedEntriesAgree : Type 0 → Type 0
CommittedEntriesAgree H = (q : Quorums) (hs : Headers H) (s : Group H) → Reached q hs s → Agreement q hs s

-- what is committed is in all later logs
abbrev pub CommittedEntriesEndure : Type 0 → Type 0
CommittedEntriesEndure H =
    (q : Quorums) (hs : Headers H) (s : Group H) → Reached q hs s
    → (u k : ℕ) (a : H) → 0 < k → Committed q hs s.sent u k a → Durability q hs s u k a

-- only nack quorums shorten a log
abbrev pub OnlyNackQuorumsShorten : Type 0 → Type 0
OnlyNackQuorumsShorten H = (q : Quorums) (hs : Headers H) (s : Group H) → Reached q hs s → Shortening q hs s

-- states come from committed entries
abbrev pub StatesComeFromCommittedEntries : Type 0 → Type 0
StatesComeFromCommittedEntries H = (q : Quorums) (hs : Headers H) (s : Group H) → Reached q hs s → States q hs s

-- ---- two lemmas that carry the proof, over histories alone

-- below a view that too few have still to reach, nothing new can become committed
abbrev pub NothingBecomesCommittable : Type 0 → Type 0
NothingBecomesCommittable H =
    (q : Quorums) (hs : Headers H) (g h : History H) → HistoryOk q hs g → Grow g h
    → (w : ℕ) → ((u : ℕ) → u < w → lagging q g u < q.replication)
    → (u k : ℕ) → u < w → MayCommit q h u k → MayCommit q g u k

-- from statements that are true a choice gives a log with which the view may begin
abbrev pub ChoicesAreSafe : Type 0 → Type 0
ChoicesAreSafe H =
    (q : Quorums) (hs : Headers H) (g : History H) → HistoryOk q hs g
    → (v log_view commit head : ℕ) (heard : ℕ → Option (Statement H)) (log : ℕ → Option H)
    → AllTrue q g v heard → Chosen q heard log_view commit head log → MayBegin q g heard v log_view commit head log
