use Rattle.std.proofs.Common.{arith, refl}
use Rattle.vr_mem.proofs.Places.{others_stay, place_within, room_changed, rooms_set}
use Rattle.vr_mem.proofs.rooms.MemRooms.settle.Goals as goal

pub index_mut-requires : goal.index_mut-requires
index_mut-requires c = let w = place_within c.place-place.new.self c.args.at c.place-place.result c.place-place.ensures.rooms c.place-place.ensures.place in omega arith

pub returns-clause-rooms : goal.returns-clause-rooms
returns-clause-rooms c = rooms_set c.place-place.new.self _ c.place-place.result c.settle.new.self c.place-place.ensures.rooms c.place-place.ensures.own refl refl (omega arith)

pub returns-clause-others : goal.returns-clause-others
returns-clause-others c =
    others_stay c.args.self.now _ c.args.at c.index_mut.result.now c.settle.new.self
    (room_changed c.args.self.now c.place-place.new.self c.args.at c.place-place.result c.index_mut.result.now c.settle.new.self c.place-place.ensures.rooms c.place-place.ensures.same c.requires.at c.place-place.ensures.own c.place-place.ensures.place c.index_mut.ensures.value)

pub returns-clause-settled : goal.returns-clause-settled
returns-clause-settled c =
    let d = room_changed c.args.self.now c.place-place.new.self c.args.at c.place-place.result c.index_mut.result.now c.settle.new.self c.place-place.ensures.rooms c.place-place.ensures.same c.requires.at c.place-place.ensures.own c.place-place.ensures.place c.index_mut.ensures.value in
    rw (d.here, d.there) c.settle.ensures
