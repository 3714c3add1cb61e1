-- A group that runs by small moves, each of one member, in any order.
-- They are cut so that each handling of a message, a request or a tick, each opening, and each of these cut short is a chain of them.
-- A message stays in `sent` for ever and may be used at any time: so losses, repeats and reorderings are included. A guard reads the
-- state of the group alone.
use Rattle.std.specs.Prelude.{ℕ, suc, ◌+◌, ◌%◌, ◌≤◌, ◌<◌, ◌≡◌, Bool, true, false, List, [], ◌∷◌, Option, None, Some, ◌⊎◌}
use Rattle.law_1_machine.specs.Basics.{update, In}
use Rattle.law_1_machine.specs.Quorums.{Quorums, count}
use Rattle.law_1_machine.specs.Headers.{Headers}
use Rattle.law_1_machine.specs.Parts.{Part, Here, Lost, header, denied}
use Rattle.law_1_machine.specs.Members.{Choice, Superblock, Statement, Memory, Message, Prepare, Prepare_ok, Commit, Start_view, Do_view_change, Start_view_change, Checkpoint, Get_view, Repair, superblock, Names, statement, Tells}
use Rattle.law_1_machine.specs.Group.{Member, made_at, Group, becomes, sends, decides, Vouches, Held}
use Rattle.law_1_machine.specs.Choosing.{Chosen}
use Rattle.law_1_machine.specs.Taking.{Takes, taken, Jumps, jumped}
use Rattle.law_1_machine.specs.Opening.{Sound, Opened, Reaches, opened}

module _ {H : Type 0} (q : Quorums) (hs : Headers H) where
  -- r runs, and m is its memory
  abbrev pub Running : Group H → ℕ → Memory H → Type 0
  Running s r m = (s.members r).memory ≡ Some m

  -- Below, m is the memory of the member that moves, k a number of the log, v a view, c a commit number and n a head.

  -- ---- memory alone

  -- a move of memory alone
  pub data Remember (s : Group H) (m : Memory H) : Memory H → Type 0 where
    -- a copy doesn't read
    loses : (k : ℕ) (x : H) → m.parts k ≡ Here x → Remember s m (record m { parts = update m.parts k (Lost x) })
    -- a commit number is learnt from a commit message or a prepare, as far as the head
    learns : (from v c d : ℕ) → In (Commit from m.log_view d) s.sent → c ≤ d → m.commit ≤ c → c ≤ m.head → Remember s m (record m { commit = c })
    hears : (from k d c : ℕ) (x : H) → In (Prepare from m.log_view k x d) s.sent → c ≤ d → m.commit ≤ c → c ≤ m.head → Remember s m (record m { commit = c })
    -- a replication quorum has vouched in this view for the next number
    tallies : (set : ℕ → Bool) → q.replication ≤ count set q.n
        → ((i : ℕ) → i < q.n → set i ≡ true → (x : H) × Vouches q s.sent i m.log_view (suc m.commit) x)
        → suc m.commit ≤ m.head → Remember s m (record m { commit = suc m.commit })
    -- a committed entry is applied, where no checkpoint falls
    applies : (x : H) (l : List H) → m.state ≡ Some l → m.applied < m.commit → suc m.applied < m.checkpoint + 32 → header (m.parts (suc m.applied)) ≡ Some x
        → Remember s m (record m { applied = suc m.applied; state = Some (x ∷ l) })
    -- the checkpoint's blocks are all there: its state is loaded
    loads : m.state ≡ None → Remember s m (record m { state = Some m.root })
    -- headers up to the checkpoint are forgotten
    forgets : (parts : ℕ → Part H) → ((j : ℕ) → m.checkpoint < j → parts j ≡ m.parts j)
        → ((j : ℕ) (h : H) → header (parts j) ≡ Some h → header (m.parts j) ≡ Some h) → Remember s m (record m { parts = parts })

  -- ---- memory and the superblock

  -- a move that ends in saving the superblock
  pub data Save (s : Group H) (m : Memory H) : Memory H → Type 0 where
    -- a view is entered
    enters : (v : ℕ) → m.view ≤ v → Save s m (record m { view = v })
    -- a committed entry is applied, and the checkpoint moves to it
    checkpoints : (x : H) (l : List H) → m.state ≡ Some l → m.applied < m.commit → header (m.parts (suc m.applied)) ≡ Some x
        → Save s m (record m { checkpoint = suc m.applied; applied = suc m.applied; root = x ∷ l; state = Some (x ∷ l) })
    -- the log of a view is taken over from a start_view
    takes_over : (from v low head c : ℕ) (headers : ℕ → Option H) (parts : ℕ → Part H) (commit n : ℕ)
        → In (Start_view from v low head c headers) s.sent → Takes m v low head c headers parts commit n → Save s m (taken m v parts commit n)
    -- or with a later checkpoint
    jumps : (from v low head c p : ℕ) (headers : ℕ → Option H) (parts : ℕ → Part H) (commit n : ℕ)
        → In (Start_view from v low head c headers) s.sent → (from' : ℕ) (root : List H) → In (Checkpoint from' v p root) s.sent
        → Jumps m v low head c p headers parts commit n → Save s m (jumped m v p root parts commit n)

  -- the primary of a view chooses the log with which it begins, from statements of this view (its own needs no message), and takes it
  pub record Chooses (s : Group H) (r : ℕ) (m : Memory H) (parts : ℕ → Part H) (new_commit new_head : ℕ) : Type 0 where
    pub lower : m.log_view < m.view
    pub leads : r ≡ m.view % q.n
    pub log_view : ℕ
    pub commit : ℕ
    pub head : ℕ
    pub heard : ℕ → Option (Statement H)
    pub log : ℕ → Option H
    pub heard_from : (i : ℕ) (t : Statement H) → heard i ≡ Some t → In (Do_view_change i m.view t) s.sent ⊎ ((i ≡ r) × ((tags : ℕ → Part H) × Tells m tags × (t ≡ statement m tags)))
    pub choice : Chosen q heard log_view commit head log
    -- the headers that it takes: above the commit number those chosen, up to it any that a statement has committed
    pub low : ℕ
    pub headers : ℕ → Option H
    pub source : (k : ℕ) (h : H) → headers k ≡ Some h
        → (low < k) × (k ≤ head) × ((log k ≡ Some h × (commit < k)) ⊎ ((i : ℕ) × (t : Statement H) × (heard i ≡ Some t) × (k ≤ t.commit) × (header (t.tags k) ≡ Some h)))
    pub whole : (k : ℕ) → low < k → k ≤ head → (h : H) × (headers k ≡ Some h)
    pub takes : Takes m m.view low head commit headers parts new_commit new_head

  -- that choice, as it stands in what was chosen
  abbrev pub made_choice : (s : Group H) (r : ℕ) (m : Memory H) (parts : ℕ → Part H) (c n : ℕ) → Chooses s r m parts c n → Choice H
  made_choice s r m parts c n b = record { by = r; view = m.view; log_view = b.log_view; commit = b.commit; head = b.head; heard = b.heard; log = b.log }

  -- ---- the log's slots

  -- what may be written at k: what is known, what the primary of this view sent, or what this member made
  pub data MayWrite (s : Group H) (m : Memory H) (k : ℕ) (e : H) : Type 0 where
    is_known : header (m.parts k) ≡ Some e → MayWrite s m k e
    was_prepared : (from c : ℕ) → In (Prepare from m.log_view k e c) s.sent → MayWrite s m k e
    was_made : In (made_at m.log_view k e) s.made → MayWrite s m k e

  -- ---- messages

  -- what a running member may say without vouching
  pub data Say (r : ℕ) (m : Memory H) : Message H → Type 0 where
    -- of a view that has begun: a commit number, the log, the checkpoint
    commits : (c : ℕ) → m.view ≡ m.log_view → c ≤ m.commit → Say r m (Commit r m.log_view c)
    starts_view : (low c : ℕ) (headers : ℕ → Option H) → m.view ≡ m.log_view → c ≤ m.commit
        → ((k : ℕ) (h : H) → headers k ≡ Some h → (low < k) × (k ≤ m.head) × (header (m.parts k) ≡ Some h))
        → ((k : ℕ) → low < k → k ≤ m.head → (h : H) × (headers k ≡ Some h)) → Say r m (Start_view r m.log_view low m.head c headers)
    tells_root : m.view ≡ m.log_view → Say r m (Checkpoint r m.log_view m.checkpoint m.root)
    -- of one that hasn't: what the member has
    states : (tags : ℕ → Part H) → m.log_view < m.view → Tells m tags → Say r m (Do_view_change r m.view (statement m tags))
    changes_view : Say r m (Start_view_change r m.view)
    asks_view : (v : ℕ) → Say r m (Get_view r v)
    repairs : Say r m (Repair r)

  -- a member may vouch, in the view whose log it has, for an entry that its disk holds and that it doesn't deny
  pub record CanVouch (s : Group H) (r : ℕ) (m : Memory H) (k : ℕ) (x : H) : Type 0 where
    pub at : m.view ≡ m.log_view
    pub known : header (m.parts k) ≡ Some x
    pub held : Held (s.members r).slots m.parts m.checkpoint k x

  -- ---- the moves

  -- one move
  pub data Step (s : Group H) : Group H → Type 0 where
    remembers : (r : ℕ) (m m' : Memory H) → Running s r m → Remember s m m' → Step s (becomes s r (record (s.members r) { memory = Some m' }))
    saves : (r : ℕ) (m m' : Memory H) (named : ℕ → Option H) → Running s r m → Save s m m' → Names m' named
        → Step s (becomes s r (record (s.members r) { last = superblock m' named; under = None; memory = Some m' }))
    -- the member stops before the value is finished
    saves_cut : (r : ℕ) (m m' : Memory H) (named : ℕ → Option H) → Running s r m → Save s m m' → Names m' named
        → Step s (becomes s r (record (s.members r) { under = Some (superblock m' named); memory = None }))
    -- a view begins; its primary's saving may be cut too
    chooses : (r : ℕ) (m : Memory H) (parts : ℕ → Part H) (c n : ℕ) (named : ℕ → Option H) → Running s r m → (b : Chooses s r m parts c n) → Names (taken m m.view parts c n) named
        → Step s (decides (becomes s r (record (s.members r) { last = superblock (taken m m.view parts c n) named; under = None; memory = Some (taken m m.view parts c n) }))
        (made_choice s r m parts c n b))
    chooses_cut : (r : ℕ) (m : Memory H) (parts : ℕ → Part H) (c n : ℕ) (named : ℕ → Option H) → Running s r m → (b : Chooses s r m parts c n) → Names (taken m m.view parts c n) named
        → Step s (decides (becomes s r (record (s.members r) { under = Some (superblock (taken m m.view parts c n) named); memory = None })) (made_choice s r m parts c n b))
    -- a primary makes the entry after its head: it has made none there in this view
    makes : (r : ℕ) (m : Memory H) (e : H) → Running s r m → m.view ≡ m.log_view → r ≡ m.log_view % q.n
        → hs.number e ≡ suc m.head → hs.made e ≡ m.log_view
        → ((m.head ≡ 0) × (hs.follows hs.root e ≡ true)) ⊎ ((h : H) × (header (m.parts m.head) ≡ Some h) × (hs.follows h e ≡ true))
        → ((x : H) → In (made_at m.log_view (suc m.head) x) s.made → ⊥)
        → Step s (record s { made = made_at m.log_view (suc m.head) e ∷ s.made })
    -- a write begins: the slot holds nothing from then on, or still what it held. What may be a copy of this very entry stays held
    begins_write : (r : ℕ) (m : Memory H) (k : ℕ) (e : H) (o : Option H) → Running s r m → MayWrite s m k e
        → m.checkpoint < k → k ≤ m.checkpoint + 64 → ((x : H) → m.parts k ≡ Here x → ⊥)
        → (o ≡ None) ⊎ (o ≡ (s.members r).slots (k % 64))
        → ((s.members r).slots (k % 64) ≡ Some e → denied (m.parts k) ≡ false → o ≡ Some e)
        → Step s (becomes s r (record (s.members r) { slots = update (s.members r).slots (k % 64) o }))
    -- it ends: the slot holds the entry
    ends_write : (r : ℕ) (m : Memory H) (k : ℕ) (e : H) (n : ℕ) → Running s r m → MayWrite s m k e
        → m.checkpoint < k → k ≤ m.checkpoint + 64 → Reaches m.checkpoint m.checkpoint (update m.parts k (Here e)) n → m.head ≤ n
        → Step s (becomes s r (record (s.members r) {
          slots = update (s.members r).slots (k % 64) (Some e);
          memory = Some (record m { parts = update m.parts k (Here e); head = n });
        }))
    stops : (r : ℕ) → Step s (becomes s r (record (s.members r) { memory = None }))
    -- an opening finds the value last finished, or the one that was cut
    opens_last : (r : ℕ) → Step s (becomes s r (record (s.members r) { under = None }))
    opens_cut : (r : ℕ) (x : Superblock H) → (s.members r).under ≡ Some x → Step s (becomes s r (record (s.members r) { last = x; under = None; memory = None }))
    -- it writes an entry's header again, and may be cut there
    writes_header : (r k : ℕ) (e : H) (o : Option H) → (s.members r).memory ≡ None → (s.members r).under ≡ None
        → (s.members r).last.checkpoint < k → k ≤ (s.members r).last.checkpoint + 64
        → ((s.members r).last.named k ≡ Some e) ⊎ In (made_at (s.members r).last.log_view k e) s.made
        → (o ≡ None) ⊎ ((o ≡ (s.members r).slots (k % 64)) ⊎ (o ≡ Some e))
        → ((s.members r).slots (k % 64) ≡ Some e → o ≡ Some e)
        → Step s (becomes s r (record (s.members r) { slots = update (s.members r).slots (k % 64) o }))
    -- it is done: the member runs with what was found
    starts : (r : ℕ) (parts : ℕ → Part H) (slots : ℕ → Option H) (n : ℕ) → (s.members r).memory ≡ None → (s.members r).under ≡ None
        → Sound hs s.made (s.members r).slots (s.members r).last parts
        → Opened (s.members r).slots (s.members r).last.checkpoint parts slots
        → Reaches (s.members r).last.checkpoint (s.members r).last.head parts n
        → Step s (becomes s r (record (s.members r) { slots = slots; memory = Some (opened (s.members r).last parts n) }))
    -- a member vouches: by a prepare_ok, or as the primary by a prepare
    accepts : (r : ℕ) (m : Memory H) (k : ℕ) (x : H) → Running s r m → CanVouch s r m k x → Step s (sends s (Prepare_ok r m.log_view k x))
    prepares : (r : ℕ) (m : Memory H) (k : ℕ) (x : H) (c : ℕ) → Running s r m → CanVouch s r m k x → r ≡ m.log_view % q.n → c ≤ m.commit → Step s (sends s (Prepare r m.log_view k x c))
    says : (r : ℕ) (m : Memory H) (x : Message H) → Running s r m → Say r m x → Step s (sends s x)

  -- ---- runs

  -- a disk that was just formatted
  abbrev pub fresh : Member H
  fresh = record {
    last = record { view = 0; log_view = 0; checkpoint = 0; commit = 0; head = 0; named = λ k. None; root = [] };
    under = None;
    slots = λ s. None;
    memory = None;
  }

  -- the states of a group that begins with fresh disks
  pub data Reached : Group H → Type 0 where
    at_first : Reached (record { members = λ r. fresh; made = []; sent = []; chosen = [] })
    and_then : (s s' : Group H) → Reached s → Step s s' → Reached s'
