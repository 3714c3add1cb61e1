use Rattle.std.proofs.Common.{ℕ, eqb, false, ◌<◌, ◌≡◌, ◌∙◌, length, sym, ap, get_or, arith, subst}
use Rattle.vr_disk.specs.DiskState.{blank, noted}
use Rattle.vr_disk.specs.Regions.{sectors}
use Rattle.std.specs.List.{list_any}
use Rattle.std.proofs.lemmas.List.{length-map}
use Rattle.vr_mem.specs.declared.face.MemFace.{MemFace}
use Rattle.vr_mem.specs.declared.room.MemRoom.{MemRoom}
use Rattle.vr_mem.specs.declared.room.MemWaiting.{MemWaiting}
use Rattle.vr_mem.specs.Seen.{IsMemFace, Stays, face_of, marked, noted_of, room_at, room_of, rooms_of, seen, waiting_in}
use Rattle.vr_mem.proofs.Places.{length_rooms, written_cells}
use Rattle.vr_mem.proofs.Settling.{same_face, written_is}
use Rattle.vr_mem.proofs.Waiting.{waits_of}
use Rattle.vr_mem.proofs.Once.{room_left}
use Rattle.vr_mem.proofs.face.MemFace.write.Goals as goal

waits_room : (f : MemFace) (i : ℕ) → IsMemFace f → i < sectors → list_any (λ (w : MemWaiting). eqb w.index i) f.waits.notes.items ≡ false → length f.waits.notes.items < sectors
waits_room f i h l absent =
    let xs = rooms_of f.rooms in
    let ws = (face_of f).waiting in
    let r = room_left sectors ws i h.once h.waiting l (waits_of i f.waits.kept.items xs f.waits.notes.items ∙ absent) in
    let n : length ws ≡ length f.waits.notes.items = length-map f.waits.notes.items (noted_of f.waits.kept.items xs) in
    omega (arith, r, n)

pub note-requires-clause-room : goal.note-requires-clause-room
note-requires-clause-room c absent = waits_room c.args.self.now c.args.index c.requires.face c.requires.index absent

pub returns-clause-after : goal.returns-clause-after
returns-clause-after c =
    let i = c.args.index in
    let m = c.args.self.now.rooms in
    let xs = rooms_of m in
    let here = c.room.ensures.room in
    let new = room_at c.write.new.self i in
    let long : i < length xs = (let n = length_rooms m c.requires.face.rooms in let l = c.requires.index in omega (arith, n, l)) in
    let now = c.note.ensures.noted xs new long here (subst (λ (r : MemRoom). Stays r new) here c.write.ensures.written.stays) c.requires.face.once in
    let there : get_or (seen m) i blank ≡ room_of c.room.result.now = c.room.ensures.cell in
    same_face _ _ _ _
    (written_cells xs (rooms_of c.write.new.self) i new (marked c.args.mark c.args.from.now.bytes) long c.write.ensures.others c.write.ensures.written.cell)
    (ap (waiting_in c.note.new.self) c.write.ensures.others ∙ (now ∙ ap (noted (waiting_in c.args.self.now.waits xs) i) (sym there)))

pub returns-clause-face : goal.returns-clause-face
returns-clause-face c = written_is c.args.self.now _ c.args.index (marked c.args.mark c.args.from.now.bytes) c.requires.face c.requires.index (returns-clause-after c) c.write.ensures.rooms c.note.ensures.waits
