-- What a room holds on its shelves.
use Rattle.std.proofs.Common.{ℕ, ◌≡◌, ◌∙◌, ap, refl, sym, true, List, Some}
use Rattle.std.specs.Prelude.{bytes_eq}
use Rattle.std.proofs.lemmas.Slice.Eq.{bytes_eq-Decides}
use Rattle.vr_base.specs.Bytes.{IsBytes}
use Rattle.vr_disk.specs.DiskState.{damaged}
use Rattle.vr_mem.specs.declared.bytes.Mark.{Mark}
use Rattle.vr_mem.specs.declared.room.MemReads.TheVariants as reads
use Rattle.vr_mem.specs.declared.room.MemRoom.{MemRoom}
use Rattle.vr_mem.specs.Seen.{Holds, IsWritten, held_on, marked, room_of, shown}
use Rattle.vr_mem.proofs.Marks.{marked_damaged}

-- a room that should hold these bytes already
pub holds_already : (m : MemRoom) (bytes : List ℕ) → bytes_eq bytes (room_of m).truth ≡ true → Holds m m bytes
unfolding room_of
holds_already m bytes e = record { truth = sym ((bytes_eq-Decides bytes (held_on m m.truth_on)).0 e); before_on = refl; stays = record { truth = refl; before = refl; lie = refl } }

-- a room that should hold what it did with every bit turned
pub damaged_truth : (old new : MemRoom) (m : Mark) (raw bytes : List ℕ) → Holds old new (marked m bytes) → bytes ≡ damaged raw → IsBytes raw → (room_of old).truth ≡ marked m raw → (room_of new).truth ≡ damaged (room_of old).truth
unfolding room_of
damaged_truth old new m raw bytes h e b t = h.truth ∙ (ap (marked m) e ∙ (sym (marked_damaged m raw b) ∙ ap damaged (sym t)))

-- what it should have held is what it held before its last write
pub written_room : (old held : MemRoom) (bytes : List ℕ) → Holds old held bytes → IsWritten old (record held { before_on = old.truth_on; reads = reads.Truth }) bytes
unfolding room_of
written_room old held bytes h = record { cell = rw (h.truth, h.stays.truth) refl; stays = record { truth = h.stays.truth; before = h.stays.before; lie = h.stays.lie } }

-- a room that reads as something else
pub shown_cell : (room : MemRoom) (bytes : List ℕ) → room_of (shown room bytes) ≡ record (room_of room) { reads = Some bytes }
unfolding room_of
shown_cell room bytes = refl
