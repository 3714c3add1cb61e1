-- What is true of each thing that holds a part of a log: a superblock, a statement, a memory, a message.
-- Each is about that one thing and the history. All of it stays true as the history grows, until the thing itself changes.
use Rattle.std.specs.Prelude.{List, ℕ, suc, ◌+◌, ◌%◌, ◌≤◌, ◌<◌, ◌≡◌, true, false, Option, None, Some, ◌⊎◌}
use Rattle.law_1_machine.specs.Basics.{In, Each}
use Rattle.law_1_machine.specs.Choosing.{Chosen}
use Rattle.law_1_machine.specs.Quorums.{Quorums}
use Rattle.law_1_machine.specs.History.{History, Settled, InLog, Retains, SafeLog, finish}
use Rattle.law_1_machine.specs.Parts.{Part, Here, header, denied, entries}
use Rattle.law_1_machine.specs.Members.{Superblock, Memory, Statement, Message, Prepare, Prepare_ok, Commit, Start_view, Do_view_change, Start_view_change, Checkpoint, Get_view, Repair, Choice, sender, view_of}
use Rattle.law_1_machine.specs.Group.{Kept, Held}

module _ {H : Type 0} where
  -- of what knows the log of v: it knows all above low up to head, knows nothing else, and its commit number is backed
  pub record Knows (q : Quorums) (g : History H) (v low commit head : ℕ) (headers : ℕ → Option H) : Type 0 where
    pub begun : g.finished v ≡ true
    pub past_base : g.base v ≤ head
    pub of_log : (k : ℕ) (h : H) → headers k ≡ Some h → InLog g v k h
    pub whole : (k : ℕ) → low < k → k ≤ head → (h : H) × (headers k ≡ Some h)
    pub low_commit : low ≤ commit
    pub commit_head : commit ≤ head
    pub window : head ≤ low + 64
    pub settled : Settled q g v commit

  -- a statement has it committed, or doesn't deny it
  abbrev pub Undenied : (ℕ → Part H) → ℕ → ℕ → H → Type 0
  Undenied tags commit k h = (k ≤ commit) ⊎ (denied (tags k) ≡ false)

  -- a superblock value of r: an opening from it finds what r has vouched for
  pub record SuperblockOk (q : Quorums) (g : History H) (r : ℕ) (slots : ℕ → Option H) (x : Superblock H) : Type 0 where
    pub knows : Knows q g x.log_view x.checkpoint x.commit x.head x.named
    pub order : x.log_view ≤ x.view
    pub root : x.root ≡ entries (g.log x.log_view) x.checkpoint
    pub retains : Retains g r x.log_view (Kept slots x.checkpoint)

  -- a statement that r made for view v: it doesn't deny what r has vouched for, nor will r vouch between its log view and v
  pub record StatementOk (q : Quorums) (g : History H) (r v : ℕ) (t : Statement H) : Type 0 where
    pub less : t.log_view < v
    pub reached : v ≤ g.view r
    pub knows : Knows q g t.log_view t.commit t.commit t.head (λ k. header (t.tags k))
    pub none_between : (u k : ℕ) → g.vouched r u k ≡ true → u < v → u ≤ t.log_view
    pub retains : Retains g r t.log_view (Undenied t.tags t.commit)

  -- a state comes from the log of v up to what is applied; where it isn't there, nothing was applied after the checkpoint
  abbrev pub StateOk : History H → ℕ → ℕ → ℕ → Option (List H) → Type 0
  StateOk g v checkpoint applied None = applied ≡ checkpoint
  StateOk g v checkpoint applied (Some l) = l ≡ entries (g.log v) applied

  -- the memory of r, while it runs
  pub record MemoryOk (q : Quorums) (g : History H) (r : ℕ) (slots : ℕ → Option H) (m : Memory H) : Type 0 where
    pub knows : Knows q g m.log_view m.checkpoint m.commit m.head (λ k. header (m.parts k))
    pub order : m.log_view ≤ m.view
    pub next : header (m.parts (suc m.head)) ≡ None
    pub reach : (k : ℕ) (h : H) → header (m.parts k) ≡ Some h → k ≤ m.checkpoint + 64
    pub applied : (m.checkpoint ≤ m.applied) × (m.applied ≤ m.commit) × (m.applied < m.checkpoint + 32)
    pub here : (k : ℕ) (h : H) → m.checkpoint < k → m.parts k ≡ Here h → slots (k % 64) ≡ Some h
    pub root : m.root ≡ entries (g.log m.log_view) m.checkpoint
    pub state : StateOk g m.log_view m.checkpoint m.applied m.state
    pub retains : Retains g r m.log_view (Held slots m.parts m.checkpoint)

  -- what a message says is so
  abbrev pub Means : Quorums → History H → Message H → Type 0
  Means q g (Prepare from v k e c) = InLog g v k e × Settled q g v c × (g.finished v ≡ true) × (from ≡ v % q.n) × (g.vouched from v k ≡ true)
  Means q g (Prepare_ok from v k e) = InLog g v k e × (g.vouched from v k ≡ true)
  Means q g (Commit from v c) = Settled q g v c
  Means q g (Start_view from v low head c headers) =
      (g.finished v ≡ true) × (g.base v ≤ head) × (head ≤ g.length v)
      × ((k : ℕ) (h : H) → headers k ≡ Some h → (low < k) × (k ≤ head) × (h ≡ g.log v k))
      × ((k : ℕ) → low < k → k ≤ head → (h : H) × (headers k ≡ Some h))
      × Settled q g v c × (c ≤ head)
  Means q g (Do_view_change from v t) = StatementOk q g from v t
  Means q g (Checkpoint from v p root) = (g.finished v ≡ true) × Settled q g v p × (root ≡ entries (g.log v) p)
  Means q g (Start_view_change from v) = Unit {0}
  Means q g (Get_view from v) = Unit {0}
  Means q g (Repair from) = Unit {0}

  -- and its sender's disk has come to its view
  abbrev pub Fact : Quorums → History H → Message H → Type 0
  Fact q g m = Each (λ v. v ≤ g.view (sender m)) (view_of m) × Means q g m

  -- a choice that was made for a view, whether its saving was cut or not: it was made from what was sent, its log is one with which the
  -- view may begin, and those who denied the next number are past the view whose log it is, without having vouched for anything there
  pub record ChoiceOk (q : Quorums) (g : History H) (sent : List (Message H)) (c : Choice H) : Type 0 where
    pub less : c.log_view < c.view
    pub begun : g.finished c.log_view ≡ true
    pub fits : c.head ≤ g.length c.log_view
    pub safe : SafeLog q g c.view c.head (g.log c.log_view)
    pub of_log : (k : ℕ) (h : H) → c.commit < k → k ≤ c.head → c.log k ≡ Some h → h ≡ g.log c.log_view k
    pub settled : Settled q g c.log_view c.commit
    pub chosen : Chosen q c.heard c.log_view c.commit c.head c.log
    pub heard_from : (i : ℕ) (t : Statement H) → c.heard i ≡ Some t → In (Do_view_change i c.view t) sent ⊎ (i ≡ c.by)
    pub silent : (i : ℕ) → i < q.n → chosen.deniers i ≡ true → (c.view ≤ g.view i) × (g.vouched i c.log_view (suc c.head) ≡ true → ⊥)

  -- the log of w, cut at head, was chosen for v, and the superblock value with it isn't known to be finished
  pub record Candidate (q : Quorums) (g : History H) (v w head : ℕ) : Type 0 where
    pub new : g.finished v ≡ false
    pub less : w < v
    pub begun : g.finished w ≡ true
    pub fits : head ≤ g.length w
    pub safe : SafeLog q g v head (g.log w)

  -- a superblock value whose writing was cut: a value of r as it is, or one with which a view would begin by a choice of r
  pub data UnderOk (q : Quorums) (g : History H) (chosen : List (Choice H)) (r : ℕ) (slots : ℕ → Option H) (x : Superblock H) : Type 0 where
    as_it_was : SuperblockOk q g r slots x → UnderOk q g chosen r slots x
    to_begin : (c : Choice H) → In c chosen → c.view ≡ x.log_view → Candidate q g x.log_view c.log_view c.head → r ≡ x.log_view % q.n → x.view ≡ x.log_view
        → SuperblockOk q (finish g x.log_view c.log_view c.head) r slots x → UnderOk q g chosen r slots x

  -- view w began with the choice c
  pub record BegunBy (g : History H) (chosen : List (Choice H)) (w : ℕ) (c : Choice H) : Type 0 where
    pub made : In c chosen
    pub view : c.view ≡ w
    pub base : c.head ≡ g.base w
    pub log : (k : ℕ) → k ≤ c.head → g.log w k ≡ g.log c.log_view k

  -- headers above low up to head of the log of v, all up to c committed
  pub record Offered (q : Quorums) (g : History H) (v low head c : ℕ) (headers : ℕ → Option H) : Type 0 where
    pub begun : g.finished v ≡ true
    pub past_base : g.base v ≤ head
    pub fits : head ≤ g.length v
    pub of_log : (k : ℕ) (h : H) → headers k ≡ Some h → h ≡ g.log v k
    pub whole : (k : ℕ) → low < k → k ≤ head → (h : H) × (headers k ≡ Some h)
    pub settled : Settled q g v c
    pub commit_head : c ≤ head

  -- each statement heard is true at v
  abbrev pub AllTrue : Quorums → History H → ℕ → (ℕ → Option (Statement H)) → Type 0
  AllTrue q g v heard = (i : ℕ) (t : Statement H) → heard i ≡ Some t → StatementOk q g i v t

  -- what the proof needs of a choice: v may begin with the log of log_view, cut at head; all up to the commit number is committed there, and
  -- each header that it uses is that log's
  pub record MayBegin (q : Quorums) (g : History H) (heard : ℕ → Option (Statement H)) (v log_view commit head : ℕ) (log : ℕ → Option H) : Type 0 where
    pub safe : SafeLog q g v head (g.log log_view)
    pub begun : g.finished log_view ≡ true
    pub less : log_view < v
    pub fits : head ≤ g.length log_view
    pub settled : Settled q g log_view commit
    pub of_log : (k : ℕ) (h : H) → commit < k → k ≤ head → log k ≡ Some h → h ≡ g.log log_view k
    pub low : (i : ℕ) (t : Statement H) (k : ℕ) (h : H) → heard i ≡ Some t → k ≤ t.commit → header (t.tags k) ≡ Some h → h ≡ g.log log_view k
