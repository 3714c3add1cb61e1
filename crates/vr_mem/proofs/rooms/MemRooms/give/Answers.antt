use Rattle.std.proofs.Common.{◌≡◌, ◌∙◌, ap, arith, refl, length, set}
use Rattle.vr_mem.specs.Seen.{rooms_by}
use Rattle.vr_mem.proofs.Places.{rooms_kept, rooms_more, space_more}
use Rattle.vr_mem.proofs.rooms.MemRooms.give.Goals as goal

pub push_reserved-requires : goal.push_reserved-requires
push_reserved-requires c =
    let n = space_more c.args.self.now c.args.at c.requires.rooms c.requires.at c.requires.none in
    let s = c.requires.rooms.space in
    omega arith

pub returns-clause-rooms : goal.returns-clause-rooms
returns-clause-rooms c =
    let e : c.len-place.result ≡ length c.args.self.now.rooms.items = (let e = c.len-place.ensures in omega arith) in
    rooms_more c.args.self.now _ c.args.at c.len-place.result c.zero.result.now c.requires.rooms c.requires.at c.requires.none e refl c.push_reserved.ensures.items (let p = c.push_reserved.ensures.capacity in omega arith)

pub returns-clause-same : goal.returns-clause-same
returns-clause-same c =
    let m = c.args.self.now in
    let k = c.len-place.result in
    let e : k ≡ length m.rooms.items = (let e = c.len-place.ensures in omega arith) in
    ap (rooms_by (set m.places.items c.args.at k)) c.push_reserved.ensures.items ∙ rooms_kept m c.args.at k c.zero.result.now c.requires.rooms c.requires.at c.requires.none c.zero.ensures e
