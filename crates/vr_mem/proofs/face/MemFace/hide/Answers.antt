use Rattle.std.proofs.Common.{◌<◌, arith, length, None}
use Rattle.vr_mem.specs.Seen.{rooms_of}
use Rattle.vr_mem.proofs.Places.{length_rooms}
use Rattle.vr_mem.proofs.Settling.{hidden_face, lied_is}
use Rattle.vr_mem.proofs.face.MemFace.hide.Goals as goal

pub returns-clause-after : goal.returns-clause-after
returns-clause-after c =
    let xs = rooms_of c.args.self.now.rooms in
    let long : c.args.index < length xs = (let n = length_rooms c.args.self.now.rooms c.requires.face.rooms in let l = c.requires.index in omega (arith, n, l)) in
    hidden_face xs (rooms_of c.hide.new.self) c.args.self.now.waits c.args.index long c.hide.ensures.same

pub returns-clause-face : goal.returns-clause-face
returns-clause-face c = lied_is c.args.self.now _ c.args.index None c.requires.face (returns-clause-after c) c.hide.ensures.rooms c.requires.face.waits
