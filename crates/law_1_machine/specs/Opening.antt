-- What an opening may find on the disk, whatever storage has lost.
-- It may find less than was written, and it may find an entry that was made and never acknowledged. It doesn't find another entry
-- than the superblock names, and it doesn't deny what a slot still holds.
use Rattle.std.specs.Prelude.{ℕ, suc, ◌+◌, ◌%◌, ◌≤◌, ◌<◌, ◌≡◌, false, List, Option, None, Some, ◌⊎◌}
use Rattle.law_1_machine.specs.Basics.{In}
use Rattle.law_1_machine.specs.Headers.{Headers}
use Rattle.law_1_machine.specs.Parts.{Part, Here, header, denied}
use Rattle.law_1_machine.specs.Members.{Superblock, Memory}
use Rattle.law_1_machine.specs.Group.{Made, made_at}

module _ {H : Type 0} where
  -- the parts found are sound for the superblock value x, what was made in the group, and what the slots hold
  pub record Sound (hs : Headers H) (made : List (Made H)) (slots : ℕ → Option H) (x : Superblock H) (parts : ℕ → Part H) : Type 0 where
    -- up to the head the header is that of the superblock (up to the checkpoint it may be forgotten)
    pub named : (k : ℕ) → x.checkpoint < k → k ≤ x.head → header (parts k) ≡ x.named k
    pub low : (k : ℕ) (h : H) → k ≤ x.checkpoint → header (parts k) ≡ Some h → x.named k ≡ Some h
    -- above it stand only entries that were made in the log view
    pub above : (k : ℕ) (h : H) → x.head < k → header (parts k) ≡ Some h → (k ≤ x.checkpoint + 64) × In (made_at x.log_view k h) made
    -- what a slot holds isn't denied, where the superblock names it or it was made in the log view above the head
    pub kept : (k : ℕ) (h : H) → x.checkpoint < k → slots (k % 64) ≡ Some h → hs.number h ≡ k
        → ((k ≤ x.head) × (x.named k ≡ Some h)) ⊎ ((x.head < k) × (hs.made h ≡ x.log_view)) → denied (parts k) ≡ false

  -- the slots after it: what was found whole is held
  pub record Opened (slots : ℕ → Option H) (checkpoint : ℕ) (parts : ℕ → Part H) (slots' : ℕ → Option H) : Type 0 where
    pub found : (k : ℕ) (h : H) → checkpoint < k → parts k ≡ Here h → slots' (k % 64) ≡ Some h
    pub stays : (k : ℕ) → checkpoint < k → k ≤ checkpoint + 64 → ((h : H) → parts k ≡ Here h → ⊥) → slots' (k % 64) ≡ slots (k % 64)
    pub only : (s : ℕ) (h : H) → slots' s ≡ Some h → (slots s ≡ Some h) ⊎ ((k : ℕ) × (checkpoint < k) × (parts k ≡ Here h))

  -- what is known reaches from low to n without a gap, and no further
  pub record Reaches (checkpoint low : ℕ) (parts : ℕ → Part H) (n : ℕ) : Type 0 where
    pub up : low ≤ n
    pub window : n ≤ checkpoint + 64
    pub whole : (k : ℕ) → low < k → k ≤ n → (h : H) × (header (parts k) ≡ Some h)
    pub next : header (parts (suc n)) ≡ None

  -- the memory with which a member runs then
  abbrev pub opened : Superblock H → (ℕ → Part H) → ℕ → Memory H
  opened x parts n = record {
    view = x.view;
    log_view = x.log_view;
    checkpoint = x.checkpoint;
    commit = x.commit;
    applied = x.checkpoint;
    head = n;
    parts = parts;
    root = x.root;
    state = None;
  }
