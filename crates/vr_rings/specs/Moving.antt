-- A file of version 1 becomes one of version 2: each slot's prepare is written at its new place, and the old ones stay.
use Rattle.std.specs.Prelude.{ℕ, zero, suc, ◌+◌, ◌≡◌, Bool, true, ◌||◌, List, [], ◌∷◌, ◌++◌, length, Option, Some, replicate, None, if◌then◌else◌}
use Rattle.vr_base.specs.Bytes.{is_zeros}
use Rattle.vr_base.specs.declared.mode.Mode.{Mode}
use Rattle.vr_disk.specs.DiskState.{Call, Sync, Face, after_all, cut}
use Rattle.vr_disk.specs.Regions.{prepare_place, prepare_sectors}
use Rattle.vr_disk.specs.Sectors.{writes}
use Rattle.vr_rings.specs.Held.{Stands, held_after_all, held_cut, is_prepare}
use Rattle.vr_rings.specs.Slots.{prepare_reading}

-- an old prepare is written as it is: it is a whole entry, or zeros
abbrev pub is_movable : List ℕ → Bool
is_movable prepare = is_prepare prepare || is_zeros prepare

-- what is written for what an old prepare reads as: the same where that may be, and else bytes that are neither
abbrev pub moved_of : Option (List ℕ) → List ℕ
moved_of None = replicate 4096 255
moved_of (Some prepare) = if is_movable prepare then prepare else replicate 4096 255

-- the new prepare of a slot
abbrev pub relocated : Face → ℕ → List ℕ
relocated f slot = moved_of (prepare_reading 1 f slot)

-- the calls that write it
abbrev pub slot_moves : Face → ℕ → List Call
slot_moves f slot = writes (prepare_place 2 slot) (prepare_sectors 2) (relocated f slot)

-- the sectors of so many slots' new prepares, from one slot on
unfoldable pub moves : ℕ → ℕ → (ℕ → List ℕ) → List Call
moves slot zero new = []
moves slot (suc n) new = writes (prepare_place 2 slot) (prepare_sectors 2) (new slot) ++ moves (slot + 1) n new

-- those of all, as the face has them
abbrev pub all_moved : Face → List Call
all_moved f = moves 0 64 (relocated f)

-- those of all, and one sync
abbrev pub move_calls : (ℕ → List ℕ) → List Call
move_calls new = moves 0 64 new ++ Sync ∷ []

-- what is written is a whole entry exactly where the old prepare reads as that entry, and zeros only where it reads as zeros
pub record IsMoved (f : Face) (slot : ℕ) (new : List ℕ) : Type 0 where
  pub size : length new ≡ 4096
  pub only : (is_prepare new || is_zeros new) ≡ true → prepare_reading 1 f slot ≡ Some new
  pub all : (p : List ℕ) → prepare_reading 1 f slot ≡ Some p → is_prepare p ≡ true → new ≡ p

-- what a slot holds it goes on holding in the old place, at each stop too; in the end it holds the same in the new one
pub record Moves (mode : Mode) (f : Face) (new : ℕ → List ℕ) (slot : ℕ) (held : Option (List ℕ)) : Type 0 where
  pub stays : Stands 1 mode (after_all f (move_calls new)) slot held
  pub same : held_after_all 1 f (move_calls new) slot held ≡ held
  pub stopped : (j code : ℕ) → Stands 1 mode (cut j code f (move_calls new)) slot held
  pub kept : (j code : ℕ) → held_cut 1 j code f (move_calls new) slot held ≡ held
  pub moved : Stands 2 mode (after_all f (move_calls new)) slot held
