use Rattle.std.proofs.Common.{◌≡◌, arith}
use Rattle.vr_mem.proofs.Places.{place_is, room_none}
use Rattle.vr_mem.proofs.rooms.MemRooms.has_zeros.Goals as goal

pub returns-then-index-eq0-clause-none : goal.returns-then-index-eq0-clause-none
returns-then-index-eq0-clause-none c z =
    let m = c.args.self.now in
    let none : c.index.result.now ≡ 0 = omega arith in
    room_none m c.args.at c.requires.rooms c.requires.at (rw none at (place_is m c.args.at c.index.result.now c.requires.rooms c.requires.at c.index.ensures))
