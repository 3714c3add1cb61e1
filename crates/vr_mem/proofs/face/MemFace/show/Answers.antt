use Rattle.std.proofs.Common.{◌<◌, ◌∙◌, arith, ap, length, Some}
use Rattle.vr_mem.specs.Seen.{room_at, rooms_of, waiting_in}
use Rattle.vr_mem.proofs.Places.{length_rooms}
use Rattle.vr_mem.proofs.Settling.{lied_is, lied_room}
use Rattle.vr_mem.proofs.face.MemFace.show.Goals as goal

pub returns-clause-after : goal.returns-clause-after
returns-clause-after c =
    let i = c.args.index in
    let m = c.args.self.now.rooms in
    let xs = rooms_of m in
    let ys = rooms_of c.show.new.self in
    let waits = c.keep.new.self in
    let x = room_at c.show.new.self i in
    let long : i < length xs = (let n = length_rooms m c.requires.face.rooms in let l = c.requires.index in omega (arith, n, l)) in
    lied_room xs ys (waiting_in c.args.self.now.waits xs) (waiting_in waits ys) i x (Some c.args.sector.now.bytes) long c.show.ensures.others c.show.ensures.shown
    (ap (waiting_in waits) c.show.ensures.others ∙ c.keep.ensures.keeps.same xs x long c.room.ensures.room c.requires.face.once)

pub returns-clause-face : goal.returns-clause-face
returns-clause-face c = lied_is c.args.self.now _ c.args.index (Some c.args.sector.now.bytes) c.requires.face (returns-clause-after c) c.show.ensures.rooms c.keep.ensures.waits
