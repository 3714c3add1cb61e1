-- What is kept of the sectors of a disk in memory, as the face that the calls of a disk see.
use Rattle.std.specs.List.{All, count_by, list_any}
use Rattle.std.specs.Option.{is_none}
use Rattle.std.specs.Vec.{vec_capacity}
use Rattle.std.specs.Prelude.{◌==◌, ◌&&◌, ◌≡◌, ◌≤◌, ◌<◌, ◌+◌, Bool, true, not, if◌then◌else◌, ℕ, List, [], ◌∷◌, length, map, replicate, Option, Some, None, slice_index_or, slice_set}
use Rattle.vr_disk.specs.DiskState.{Cell, Waiting, Face, written}
use Rattle.vr_disk.specs.Regions.{sectors}
use Rattle.vr_disk.specs.declared.sector.Sector.{Sector}
use Rattle.vr_mem.specs.declared.bytes.Mark.{Mark}
use Rattle.vr_mem.specs.declared.bytes.Mark.TheVariants as mark
use Rattle.vr_mem.specs.declared.bytes.MemBytes.{MemBytes}
use Rattle.vr_mem.specs.declared.room.MemReads.{MemReads}
use Rattle.vr_mem.specs.declared.room.MemReads.TheVariants as r
use Rattle.vr_mem.specs.declared.room.MemRoom.{MemRoom}
use Rattle.vr_mem.specs.declared.rooms.MemRooms.{MemRooms}
use Rattle.vr_mem.specs.declared.room.MemWaiting.{MemWaiting}
use Rattle.vr_mem.specs.declared.room.MemKept.{MemKept}
use Rattle.vr_mem.specs.declared.waits.MemWaits.{MemWaits}
use Rattle.vr_mem.specs.declared.room.Shelf.{Shelf}
use Rattle.vr_mem.specs.declared.room.Shelf.TheVariants as shelf
use Rattle.vr_mem.specs.declared.face.MemFace.{MemFace}

-- the bytes of a sector that can be read
abbrev pub reads_of : Option Sector → Option (List ℕ)
reads_of None = None
reads_of (Some s) = Some s.bytes

-- so many copies of an item
unfoldable pub copies : {X : Type 0} → ℕ → X → List X
copies n x = replicate n x

-- bytes with their mark: those that stand for another content are none that can be written as they are
abbrev pub marked : Mark → List ℕ → List ℕ
marked mark.Plain bytes = bytes
marked mark.Owed bytes = map (λ b. b + 256) bytes

-- zeros are plain
abbrev pub mark_of : MemBytes → Mark
mark_of m = if m.zeros then mark.Plain else m.mark

-- what it holds: zeros are only noted
unfoldable pub bytes_of : MemBytes → List ℕ
bytes_of m = if m.zeros then copies 512 0 else marked m.mark m.sector.bytes

-- what a sector reads as, by what it should hold and its lie
abbrev pub reads_by : MemReads → List ℕ → List ℕ → Option (List ℕ)
reads_by r.Truth truth lie = Some truth
reads_by r.Lie truth lie = Some lie
reads_by r.Nothing truth lie = None

-- the mark of what a sector reads as, by that of what it should hold: a lie is plain
abbrev pub mark_by : MemReads → Mark → Mark
mark_by r.Truth truth = truth
mark_by r.Lie truth = mark.Plain
mark_by r.Nothing truth = mark.Plain

-- of three shelves
abbrev pub by_shelf : {X : Type 0} → Shelf → X → X → X → X
by_shelf shelf.One a b c = a
by_shelf shelf.Two a b c = b
by_shelf shelf.Three a b c = c

-- one that is neither of these
abbrev pub free_of : Shelf → Shelf → Shelf
free_of truth before = by_shelf truth (by_shelf before shelf.Two shelf.Three shelf.Two) (by_shelf before shelf.Three shelf.One shelf.One) (by_shelf before shelf.Two shelf.One shelf.One)

-- what stands on a shelf of a room
abbrev pub on : MemRoom → Shelf → MemBytes
on m s = by_shelf s m.one m.two m.three

abbrev pub held_on : MemRoom → Shelf → List ℕ
held_on m s = bytes_of (on m s)

abbrev pub put_on : MemRoom → Shelf → MemBytes → MemRoom
put_on m s x = record m { one = by_shelf s x m.one m.one; two = by_shelf s m.two x m.two; three = by_shelf s m.three m.three x }

unfoldable pub room_of : MemRoom → Cell
room_of m = record { truth = held_on m m.truth_on; reads = reads_by m.reads (held_on m m.truth_on) m.lie.bytes; before = held_on m m.before_on }

-- the mark of what it reads as
abbrev pub read_mark_of : MemRoom → Mark
read_mark_of m = mark_by m.reads (mark_of (on m m.truth_on))

-- it reads as something else
abbrev pub shown : MemRoom → List ℕ → MemRoom
shown m bytes = record m { reads = r.Lie; lie = record { bytes = bytes } }

abbrev pub hidden : MemRoom → MemRoom
hidden m = record m { reads = r.Nothing }

-- what a room held stays where it stood, and so does its lie
pub record Stays (old new : MemRoom) : Type 0 where
  pub truth : held_on new old.truth_on ≡ held_on old old.truth_on
  pub before : held_on new old.before_on ≡ held_on old old.before_on
  pub lie : new.lie ≡ old.lie

-- it should hold these bytes, and held before its last write what it did
pub record Holds (old new : MemRoom) (bytes : List ℕ) : Type 0 where
  pub truth : held_on new new.truth_on ≡ bytes
  pub before_on : new.before_on ≡ old.before_on
  pub stays : Stays old new

-- these bytes are written into it
pub record IsWritten (old new : MemRoom) (bytes : List ℕ) : Type 0 where
  pub cell : room_of new ≡ written (room_of old) bytes
  pub stays : Stays old new

-- it reads as these bytes, and holds what it did
abbrev pub IsShown : MemRoom → MemRoom → List ℕ → Type 0
IsShown old new bytes = room_of new ≡ record (room_of old) { reads = Some bytes }

-- what was copied out, by how it was read
abbrev pub was_by : MemReads → MemKept → Cell
was_by reads k = record { truth = bytes_of k.truth; reads = reads_by reads (bytes_of k.truth) k.lie.bytes; before = bytes_of k.before }

-- what its room has of what a sector was that waits
abbrev pub copied : MemWaiting → MemRoom → MemKept
copied w room = record { truth = on room w.truth_on; before = on room w.before_on; lie = room.lie }

-- what it was, at its place among what was copied out, or in its room
abbrev pub kept_by : Option ℕ → List MemKept → MemKept → MemKept
kept_by None kept here = here
kept_by (Some place) kept here = slice_index_or kept place here

-- what it was
unfoldable pub was_of : List MemKept → MemWaiting → MemRoom → Cell
was_of kept w room = was_by w.reads (kept_by w.kept kept (copied w room))

-- a room of zeros, for a sector that was never written
unfoldable pub blank_room : MemRoom
blank_room =
    let zeros : Sector = record { bytes = copies 512 0 } in
    let none : MemBytes = record { zeros = true; mark = mark.Plain; sector = zeros } in
    record { truth_on = shelf.One; before_on = shelf.One; reads = r.Truth; one = none; two = none; three = none; lie = zeros }

abbrev pub noted_of : List MemKept → List MemRoom → MemWaiting → Waiting
noted_of kept rooms w = record { index = w.index; was = was_of kept w (slice_index_or rooms w.index blank_room) }

-- those that wait, by what was copied out and the room of each sector
abbrev pub waiting_of : List MemKept → List MemRoom → List MemWaiting → List Waiting
waiting_of kept rooms ws = map (noted_of kept rooms) ws

abbrev pub waiting_in : MemWaits → List MemRoom → List Waiting
waiting_in m rooms = waiting_of m.kept.items rooms m.notes.items

-- a sector of zeros that was never written
unfoldable pub zero_cell : Cell
zero_cell = record { truth = copies 512 0; reads = Some (copies 512 0); before = copies 512 0 }

-- the room of each sector, by its place
unfoldable pub rooms_by : List ℕ → List MemRoom → List MemRoom
rooms_by places rooms = map (λ p. slice_index_or rooms p blank_room) places

abbrev pub rooms_of : MemRooms → List MemRoom
rooms_of m = rooms_by m.places.items m.rooms.items

abbrev pub room_at : MemRooms → ℕ → MemRoom
room_at m i = slice_index_or (rooms_of m) i blank_room

-- what each sector holds
abbrev pub seen : MemRooms → List Cell
seen m = map room_of (rooms_of m)

abbrev pub face_of : MemFace → Face
face_of f = record { cells = seen f.rooms; waiting = waiting_in f.waits (rooms_of f.rooms) }

-- the mark of what a sector reads as
abbrev pub read_mark_at : MemFace → ℕ → Mark
read_mark_at f i = read_mark_of (room_at f.rooms i)

-- no sector waits twice
abbrev pub once : List Waiting → Bool
once [] = true
once (w ∷ ws) = not (list_any (λ x. x.index == w.index) ws) && once ws

-- the first room is of zeros, for all sectors that have none of their own; no two share another one
pub record AreRooms (m : MemRooms) : Type 0 where
  pub count : length m.places.items ≡ sectors
  pub first : slice_index_or m.rooms.items 0 blank_room ≡ blank_room
  pub within : (i : ℕ) → slice_index_or m.places.items i 0 < length m.rooms.items
  pub own : (i j : ℕ) → 0 < slice_index_or m.places.items i 0 → slice_index_or m.places.items i 0 ≡ slice_index_or m.places.items j 0 → i ≡ j
  pub given : length m.rooms.items + count_by (λ p. p == 0) m.places.items ≡ sectors + 1
  pub space : sectors + 1 ≤ vec_capacity m.rooms

-- whether its room has what it was
abbrev pub is_in_room : MemWaiting → Bool
is_in_room w = is_none w.kept

-- right after a place, 0 where there is none
abbrev pub place_end : Option ℕ → ℕ
place_end None = 0
place_end (Some place) = place + 1

-- each sector can wait, and what each was can be copied out
pub record AreWaits (m : MemWaits) : Type 0 where
  pub most : length m.notes.items ≤ sectors
  pub space : sectors ≤ vec_capacity m.notes
  pub within : All (λ w. place_end w.kept ≤ length m.kept.items) m.notes.items
  pub given : length m.kept.items + count_by is_in_room m.notes.items ≡ length m.notes.items
  pub kept_space : sectors ≤ vec_capacity m.kept

-- those that wait were what they were, whatever the room of this sector becomes
pub record Keeps (old new : MemWaits) (index : ℕ) (room : MemRoom) : Type 0 where
  pub count : length new.notes.items ≡ length old.notes.items
  pub same : (rooms : List MemRoom) (now : MemRoom) → index < length rooms → slice_index_or rooms index blank_room ≡ room → once (waiting_in old rooms) ≡ true → waiting_in new (slice_set rooms index now) ≡ waiting_in old rooms

-- 3,984 sectors, each of which can wait
pub record IsMemFace (f : MemFace) : Type 0 where
  pub count : length (face_of f).cells ≡ sectors
  pub waiting : All (λ w. w.index < sectors) (face_of f).waiting
  pub rooms : AreRooms f.rooms
  pub once : once (face_of f).waiting ≡ true
  pub waits : AreWaits f.waits
