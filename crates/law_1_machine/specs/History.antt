-- What a group has done so far, as far as the proof looks at it: the log of each view, who has vouched for what, and how far
-- each member's disk has come. It only grows. No member sees it, and no guard of a move reads it.
-- Below, u, v and w are views, k is a number in the log, r and i are members.
use Rattle.std.specs.Prelude.{ℕ, zero, suc, ◌+◌, ◌≤◌, ◌<◌, ◌≡◌, Bool, true, false, ◌||◌, ◌&&◌, nat_le, ◌==◌}
use Rattle.law_1_machine.specs.Basics.{update}
use Rattle.law_1_machine.specs.Quorums.{Quorums, count}
use Rattle.law_1_machine.specs.Headers.{Headers}

-- the history of a group, with headers of type H
pub record History (H : Type 0) : Type 0 where
  -- the view's primary has finished saving the log with which the view begins, so that log is fixed
  pub finished : ℕ → Bool
  -- how long the view's log was then
  pub base : ℕ → ℕ
  -- how long the view's log is now, with what its primary has made
  pub length : ℕ → ℕ
  -- the log of a view, by number, from the root on
  pub log : ℕ → ℕ → H
  -- a member has vouched, in a view, for the entry of that view's log at a number: it said that its disk has it
  pub vouched : ℕ → ℕ → ℕ → Bool
  -- what the superblock value says that a member has last finished
  pub view : ℕ → ℕ
  -- the last view whose log the member took over or began
  pub log_view : ℕ → ℕ
  pub checkpoint : ℕ → ℕ

module _ {H : Type 0} where
  -- r has vouched there, or still can: a member vouches only in the view in which it is
  abbrev pub may_vouch : History H → ℕ → ℕ → ℕ → Bool
  may_vouch g r u k = g.vouched r u k || nat_le (g.view r) u

  -- how many members have vouched there
  abbrev pub vouchers : Quorums → History H → ℕ → ℕ → ℕ
  vouchers q g u k = count (λ r. g.vouched r u k) q.n

  -- how many have vouched there or still can
  abbrev pub possible_vouchers : Quorums → History H → ℕ → ℕ → ℕ
  possible_vouchers q g u k = count (λ r. may_vouch g r u k) q.n

  -- how many haven't come past a view
  abbrev pub lagging : Quorums → History H → ℕ → ℕ
  lagging q g u = count (λ r. nat_le (g.view r) u) q.n

-- each number up to k has p in a view that is at most the next number's, the last one in u, within the logs
abbrev pub Chain : (ℕ → ℕ) → (ℕ → ℕ → Type 0) → ℕ → ℕ → Type 0
Chain length p u zero = Unit {0}
Chain length p u (suc k) = (suc k ≤ length u) × p u (suc k) × ((v : ℕ) × (v ≤ u) × Chain length p v k)

module _ {H : Type 0} where
  -- a replication quorum has vouched for the entry of the log of u at k
  abbrev pub HasQuorum : Quorums → History H → ℕ → ℕ → Type 0
  HasQuorum q g u k = q.replication ≤ vouchers q g u k

  -- it has, or may still come to
  abbrev pub MayHaveQuorum : Quorums → History H → ℕ → ℕ → Type 0
  MayHaveQuorum q g u k = q.replication ≤ possible_vouchers q g u k

  -- the log of u is committed up to k, and k itself in u
  abbrev pub CommittedUpTo : Quorums → History H → ℕ → ℕ → Type 0
  CommittedUpTo q g u k = Chain g.length (HasQuorum q g) u k

  -- it is, or can still become so: this is what a later view has to keep
  abbrev pub MayCommit : Quorums → History H → ℕ → ℕ → Type 0
  MayCommit q g u k = Chain g.length (MayHaveQuorum q g) u k

  -- a commit number that is c is backed in view w: each number up to c is committed in a view at most w
  abbrev pub Settled : Quorums → History H → ℕ → ℕ → Type 0
  Settled q g w c = (u : ℕ) × (u ≤ w) × CommittedUpTo q g u c

  -- h is the entry of the log of w at k
  abbrev pub InLog : History H → ℕ → ℕ → H → Type 0
  InLog g w k h = (0 < k) × (k ≤ g.length w) × (h ≡ g.log w k)

  -- each view after u, up to x, that has begun began with the entry of u at k
  abbrev pub CarriedThrough : History H → ℕ → ℕ → ℕ → Type 0
  CarriedThrough g u x k = (w : ℕ) → g.finished w ≡ true → u < w → w ≤ x → (k ≤ g.base w) × (g.log w k ≡ g.log u k)

  -- of each entry for which r vouched in a view up to x, as long as no later log up to x has dropped it, P holds
  abbrev pub Retains : History H → ℕ → ℕ → (ℕ → H → Type 0) → Type 0
  Retains g r x P = (u k : ℕ) → g.vouched r u k ≡ true → u ≤ x → CarriedThrough g u x k → P k (g.log u k)

  -- a log with which v may begin, cut at head
  pub record SafeLog (q : Quorums) (g : History H) (v head : ℕ) (log : ℕ → H) : Type 0 where
    -- too few are left in any earlier view to commit there what nobody has vouched for yet
    pub few : (u : ℕ) → u < v → lagging q g u < q.replication
    -- what is committed in an earlier view, or still can be, is in it
    pub kept : (u k : ℕ) → u < v → 0 < k → MayCommit q g u k → (k ≤ head) × (log k ≡ g.log u k)

  -- the invariant of the history itself
  pub record HistoryOk (q : Quorums) (hs : Headers H) (g : History H) : Type 0 where
    -- view 0 begins with the root alone
    pub first : (g.finished 0 ≡ true) × (g.base 0 ≡ 0)
    -- what a view began with is in its log
    pub based : (w : ℕ) → g.finished w ≡ true → g.base w ≤ g.length w
    -- each log begins with the root, is numbered, and each entry stands on the one before it
    pub rooted : (w : ℕ) → g.log w 0 ≡ hs.root
    pub number : (w k : ℕ) → g.finished w ≡ true → k ≤ g.length w → hs.number (g.log w k) ≡ k
    pub chained : (w k : ℕ) → g.finished w ≡ true → k < g.length w → hs.follows (g.log w k) (g.log w (suc k)) ≡ true
    -- above the base stands what was made in the view, below it what was made before
    pub made_in : (w k : ℕ) → g.finished w ≡ true → g.base w < k → k ≤ g.length w → hs.made (g.log w k) ≡ w
    pub made_before : (w k : ℕ) → g.finished w ≡ true → 0 < k → k ≤ g.base w → hs.made (g.log w k) < w
    pub not_begun : (w : ℕ) → g.finished w ≡ false → g.length w ≡ 0
    -- a vouch is for an entry of a log, in a view that the member's disk has come to, within its window of 64
    pub vouch : (r u k : ℕ) → g.vouched r u k ≡ true → (g.finished u ≡ true) × (0 < k) × (k ≤ g.length u) × (u ≤ g.log_view r) × (k ≤ g.checkpoint r + 64)
    -- a member's log is of a view that it has come to
    pub order : (r : ℕ) → g.log_view r ≤ g.view r
    -- the heart: what may still be committed below a view is in the log with which the view began
    pub safe : (w : ℕ) → g.finished w ≡ true → SafeLog q g w (g.base w) (g.log w)

module _ {H : Type 0} where
  -- the primary of v has finished its choice: the log of w, cut at head
  abbrev pub finish : History H → ℕ → ℕ → ℕ → History H
  finish g v w head = record g {
    finished = update g.finished v true;
    base = update g.base v head;
    length = update g.length v head;
    log = update g.log v (g.log w);
  }

  -- the primary of v has begun to write a new entry
  abbrev pub make : History H → ℕ → H → History H
  make g v e = record g { length = update g.length v (suc (g.length v)); log = update g.log v (update (g.log v) (suc (g.length v)) e) }

  -- r has finished a superblock value
  abbrev pub saved : History H → ℕ → ℕ → ℕ → ℕ → History H
  saved g r view log_view checkpoint = record g {
    view = update g.view r view;
    log_view = update g.log_view r log_view;
    checkpoint = update g.checkpoint r checkpoint;
  }

  -- r has vouched in u at k
  abbrev pub vouch : History H → ℕ → ℕ → ℕ → History H
  vouch g r u k = record g { vouched = λ i w j. g.vouched i w j || ((i == r) && ((w == u) && (j == k))) }
