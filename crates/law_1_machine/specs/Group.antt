-- The state of a group: each member's disk and memory, and what was made, sent and chosen by anyone so far.
-- A slot of a disk holds what the member once had there and hasn't begun to overwrite: its own copy may be unreadable meanwhile.
-- A member that has stopped has no memory. A superblock value whose writing was cut may be what the next opening finds.
use Rattle.std.specs.Prelude.{ℕ, ◌%◌, ◌≤◌, ◌≡◌, false, List, ◌∷◌, Option, Some, ◌⊎◌}
use Rattle.law_1_machine.specs.Basics.{update, In}
use Rattle.law_1_machine.specs.Quorums.{Quorums}
use Rattle.law_1_machine.specs.Parts.{Part, denied}
use Rattle.law_1_machine.specs.Members.{Superblock, Memory, Choice, Message, Prepare, Prepare_ok}

-- a member: its disk, and its memory while it runs
pub record Member (H : Type 0) : Type 0 where
  -- the superblock value last finished
  pub last : Superblock H
  -- the one whose writing was cut after it, if any
  pub under : Option (Superblock H)
  -- by slot, of which there are 64: entry k has slot k % 64
  pub slots : ℕ → Option H
  pub memory : Option (Memory H)

-- an entry that its primary has begun to write
pub record Made (H : Type 0) : Type 0 where
  pub view : ℕ
  pub number : ℕ
  pub entry : H

-- entry e, made in view v at number k
abbrev pub made_at : {H : Type 0} → ℕ → ℕ → H → Made H
made_at v k e = record { view = v; number = k; entry = e }

-- the members, and all that was made, sent and chosen
pub record Group (H : Type 0) : Type 0 where
  pub members : ℕ → Member H
  pub made : List (Made H)
  pub sent : List (Message H)
  pub chosen : List (Choice H)

module _ {H : Type 0} where
  -- one member changes
  abbrev pub becomes : Group H → ℕ → Member H → Group H
  becomes s r m = record s { members = update s.members r m }

  -- a message is sent
  abbrev pub sends : Group H → Message H → Group H
  sends s m = record s { sent = m ∷ s.sent }

  -- a choice is made
  abbrev pub decides : Group H → Choice H → Group H
  decides s c = record s { chosen = c ∷ s.chosen }

  -- i has vouched for x at k in view u: by a prepare_ok, or by a prepare as the view's primary
  abbrev pub Vouches : Quorums → List (Message H) → ℕ → ℕ → ℕ → H → Type 0
  Vouches q sent i u k x = In (Prepare_ok i u k x) sent ⊎ ((i ≡ u % q.n) × ((c : ℕ) × In (Prepare i u k x c) sent))

  -- the checkpoint covers k, or its slot holds h
  abbrev pub Kept : (ℕ → Option H) → ℕ → ℕ → H → Type 0
  Kept slots checkpoint k h = (k ≤ checkpoint) ⊎ (slots (k % 64) ≡ Some h)

  -- and memory doesn't deny it
  abbrev pub Held : (ℕ → Option H) → (ℕ → Part H) → ℕ → ℕ → H → Type 0
  Held slots parts checkpoint k h = (k ≤ checkpoint) ⊎ ((slots (k % 64) ≡ Some h) × (denied (parts k) ≡ false))
