-- Seven facts about a group of the protocol's machine, of which its safety follows. Each is of a state that a run reaches, with the history g
-- that the invariant gives; the first is also of the move from it.
use Rattle.std.specs.Prelude.{ℕ, suc, ◌%◌, ◌≤◌, ◌<◌, ◌≡◌, Bool, true, Option, Some, ◌⊎◌}
use Rattle.law_1_machine.specs.Basics.{In, Each}
use Rattle.law_1_machine.specs.Choosing.{Chosen, Denies}
use Rattle.law_1_machine.specs.Claims.{BegunBy, Undenied}
use Rattle.law_1_machine.specs.Group.{Group, Held, Kept, Made, Vouches}
use Rattle.law_1_machine.specs.Headers.{Headers}
use Rattle.law_1_machine.specs.History.{CarriedThrough, History, InLog}
use Rattle.law_1_machine.specs.Invariant.{Ahead}
use Rattle.law_1_machine.specs.Laws.{Backed}
use Rattle.law_1_machine.specs.Machine.{Running}
use Rattle.law_1_machine.specs.Members.{Choice, CommitNumber, Do_view_change, Memory, Message, Prepare, Statement, sender, view_of}
use Rattle.law_1_machine.specs.Parts.{header}
use Rattle.law_1_machine.specs.Quorums.{Column, Fits, Quorums, count}

module _ {H : Type 0} (q : Quorums) (hs : Headers H) where
  -- 1. What a disk has saved never goes back; nobody has said anything in a view that its disk hasn't come to; and a member vouches in the
  -- view in which it is, with that view's log.
  pub record DisksMoveOn (s s' : Group H) : Type 0 where
    pub last : (r : ℕ) → Ahead (s.members r).last (s'.members r).last
    pub said : (m : Message H) → In m s.sent → Each (λ v. v ≤ (s.members (sender m)).last.view) (view_of m)
    pub vouch : (i u k : ℕ) (x : H) → Vouches q s'.sent i u k x
        → Vouches q s.sent i u k x ⊎ ((m : Memory H) × Running q hs s i m × (m.view ≡ u) × (m.log_view ≡ u))

  -- 2. Each view has one log: what its primary chose, and above that what was made in the view, one entry a number, each on the one before.
  -- All that a member of that log view knows is of this log, and so is each entry sent in the view.
  pub record OneLogAView (g : History H) (s : Group H) : Type 0 where
    pub first : (g.finished 0 ≡ true) × (g.base 0 ≡ 0)
    pub led : (w : ℕ) → g.finished w ≡ true → w ≤ (s.members (w % q.n)).last.log_view
    pub begun : (w : ℕ) → 0 < w → g.finished w ≡ true → (c : Choice H) × BegunBy g s.chosen w c
    pub made : (x : Made H) → In x s.made → (g.base x.view < x.number) × InLog g x.view x.number x.entry
    pub chained : (w k : ℕ) → g.finished w ≡ true → k < g.length w → (hs.number (g.log w k) ≡ k) × (hs.follows (g.log w k) (g.log w (suc k)) ≡ true)
    pub saved : (r k : ℕ) (x : H) → (s.members r).last.named k ≡ Some x → InLog g (s.members r).last.log_view k x
    pub known : (r : ℕ) (m : Memory H) (k : ℕ) (x : H) → Running q hs s r m → header (m.parts k) ≡ Some x → InLog g m.log_view k x
    pub prepared : (from v k : ℕ) (x : H) (c : ℕ) → In (Prepare from v k x c) s.sent → InLog g v k x
    pub reach : (r : ℕ) (m : Memory H) → Running q hs s r m → g.base m.log_view ≤ m.head

  -- 3. What a member has vouched for, and no later log up to its own has dropped, its checkpoint covers or its slot holds; and while it
  -- runs, it doesn't deny it.
  pub record KeepsVouched (g : History H) (s : Group H) : Type 0 where
    pub on_disk : (r u k : ℕ) (x : H) → Vouches q s.sent r u k x → CarriedThrough g u (s.members r).last.log_view k
        → Kept (s.members r).slots (s.members r).last.checkpoint k x
    pub in_memory : (r u k : ℕ) (x : H) (m : Memory H) → Running q hs s r m → Vouches q s.sent r u k x → CarriedThrough g u m.log_view k
        → Held (s.members r).slots m.parts m.checkpoint k x

  -- 4. A statement was true when it was sent, and its sender vouches for nothing between its log view and the view that it was sent for.
  pub record TrueStatements (g : History H) (s : Group H) : Type 0 where
    pub less : (r v : ℕ) (t : Statement H) → In (Do_view_change r v t) s.sent → (t.log_view < v) × (v ≤ (s.members r).last.view)
    pub named : (r v : ℕ) (t : Statement H) (k : ℕ) (x : H) → In (Do_view_change r v t) s.sent → header (t.tags k) ≡ Some x → InLog g t.log_view k x
    pub undenied : (r v : ℕ) (t : Statement H) (u k : ℕ) (x : H) → In (Do_view_change r v t) s.sent → Vouches q s.sent r u k x → u ≤ t.log_view
        → CarriedThrough g u t.log_view k → Undenied t.tags t.commit k x
    pub none_between : (r v : ℕ) (t : Statement H) (u k : ℕ) (x : H) → In (Do_view_change r v t) s.sent → Vouches q s.sent r u k x → u < v → u ≤ t.log_view

  -- 6. Each commit number is backed: all up to it is committed in a view at most its own; and what a member knows up to its own is that entry.
  pub record CommitNumbersAreBacked (s : Group H) : Type 0 where
    pub told : (m : Message H) (v c k : ℕ) → CommitNumber m v c → In m s.sent → k ≤ c → (x : H) × Backed q hs s.sent v k x
    pub members : (r : ℕ) (m : Memory H) (k : ℕ) → Running q hs s r m → k ≤ m.commit → (x : H) × Backed q hs s.sent m.log_view k x
    pub known : (r : ℕ) (m : Memory H) (k : ℕ) (x : H) → Running q hs s r m → k ≤ m.commit → header (m.parts k) ≡ Some x → Backed q hs s.sent m.log_view k x

  -- 5. Where as many as commit an entry are none of them a denier of a number, no choice ends before it.
  abbrev pub NotCutThere : Type 0
  NotCutThere =
      (heard : ℕ → Option (Statement H)) (log_view commit head : ℕ) (log : ℕ → Option H) → Chosen q heard log_view commit head log
      → (set : ℕ → Bool) → q.replication ≤ count set q.n
      → (i : ℕ) × (i < q.n) × (set i ≡ true) × ((t : Statement H) × (heard i ≡ Some t) × Denies log_view (suc head) log t)

-- and as many as end a view include one of any that commit an entry
abbrev pub ViewChangesMeet : Type 0
ViewChangesMeet =
    (n : ℕ) (c : Column) → Fits n c → (some most : ℕ → Bool) → c.replication ≤ count some n → c.view_change ≤ count most n
    → (i : ℕ) × (i < n) × (some i ≡ true) × (most i ≡ true)
