-- A member takes over the log of a view.
-- Where it has the entry that the log has, its copy counts on; where it doesn't know what it had, it goes on as if it may have had the
-- entry; else it wants it. A member that lags too far goes on from a later checkpoint (it jumps).
use Rattle.std.specs.Prelude.{List, ℕ, suc, ◌+◌, ◌≤◌, ◌<◌, ◌≡◌, false, Option, None, Some, ◌⊎◌}
use Rattle.law_1_machine.specs.Parts.{Part, Here, Lost, Wanted, Nothing, header, denied}
use Rattle.law_1_machine.specs.Members.{Memory}

module _ {H : Type 0} where
  -- a part p becomes p' as the log's header e is laid over it
  pub record Installed (e : H) (p p' : Part H) : Type 0 where
    pub named : header p' ≡ Some e
    -- what may be a copy of e isn't denied afterwards
    pub stays : denied p ≡ false → ((x : H) → header p ≡ Some x → x ≡ e) → denied p' ≡ false
    pub here : (x : H) → p' ≡ Here x → p ≡ Here x

  -- the log of v, of which headers above low up to head are given, and of which all up to told is committed
  pub record Takes (m : Memory H) (v low head told : ℕ) (headers : ℕ → Option H) (parts : ℕ → Part H) (new_commit new_head : ℕ) : Type 0 where
    -- no earlier view; the headers begin at or below what is committed here, and reach it
    pub view : m.view ≤ v
    pub low_commit : low ≤ m.commit
    pub commit_head : m.commit ≤ head
    pub window : head ≤ m.checkpoint + 64
    pub below : (k : ℕ) → (k ≤ low) ⊎ (k ≤ m.checkpoint) → parts k ≡ m.parts k
    pub between : (k : ℕ) (h : H) → low < k → m.checkpoint < k → k ≤ head → headers k ≡ Some h → Installed h (m.parts k) (parts k)
    -- of a later view, nothing stays above its end; of the same view, all does
    pub above : (k : ℕ) → head < k → ((m.log_view < v) × (parts k ≡ Nothing)) ⊎ ((m.log_view ≡ v) × (parts k ≡ m.parts k))
    pub committed : (m.commit ≤ new_commit) × (told ≤ new_commit) × ((new_commit ≡ m.commit) ⊎ (new_commit ≡ told))
    -- the new head is where what is known ends
    pub reach : (head ≤ new_head) × (new_head ≤ m.checkpoint + 64)
    pub more : (k : ℕ) → head < k → k ≤ new_head → (h : H) × (header (parts k) ≡ Some h)
    pub next : header (parts (suc new_head)) ≡ None

  -- the memory afterwards
  abbrev pub taken : Memory H → ℕ → (ℕ → Part H) → ℕ → ℕ → Memory H
  taken m v parts commit n = record m { view = v; log_view = v; parts = parts; commit = commit; head = n }

  -- the same, by one that goes on from the later checkpoint p; what it knew above its own commit number and up to low is dropped,
  -- since nothing confirms it
  pub record Jumps (m : Memory H) (v low head told p : ℕ) (headers : ℕ → Option H) (parts : ℕ → Part H) (new_commit new_head : ℕ) : Type 0 where
    pub view : m.view ≤ v
    pub past : (low < p) × (p ≤ told) × (m.checkpoint < p)
    pub commit_head : m.commit ≤ head
    pub window : head ≤ p + 64
    pub below : (k : ℕ) → k ≤ low → k ≤ m.commit → parts k ≡ m.parts k
    pub unsure : (k : ℕ) → k ≤ low → m.commit < k → header (parts k) ≡ None
    pub lost : (k : ℕ) (h : H) → low < k → k ≤ p → headers k ≡ Some h → parts k ≡ Lost h
    pub between : (k : ℕ) (h : H) → p < k → k ≤ head → headers k ≡ Some h → Installed h (m.parts k) (parts k) ⊎ ((m.checkpoint + 64 < k) × (parts k ≡ Wanted h))
    pub above : (k : ℕ) → head < k
        → ((m.log_view < v) × (parts k ≡ Nothing)) ⊎ ((m.log_view ≡ v) × ((parts k ≡ m.parts k) ⊎ ((m.checkpoint + 64 < k) × (parts k ≡ Nothing))))
    pub committed : (m.commit ≤ new_commit) × (told ≤ new_commit) × ((new_commit ≡ m.commit) ⊎ (new_commit ≡ told))
    pub reach : (head ≤ new_head) × (new_head ≤ p + 64)
    pub more : (k : ℕ) → head < k → k ≤ new_head → (h : H) × (header (parts k) ≡ Some h)
    pub next : header (parts (suc new_head)) ≡ None

  -- the memory afterwards: the state of p is still to be loaded
  abbrev pub jumped : Memory H → ℕ → ℕ → List H → (ℕ → Part H) → ℕ → ℕ → Memory H
  jumped m v p root parts commit n = record m { view = v; log_view = v; checkpoint = p; applied = p; root = root; state = None; parts = parts; commit = commit; head = n }
