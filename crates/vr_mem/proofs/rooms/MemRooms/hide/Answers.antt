use Rattle.std.proofs.Common.{arith, refl}
use Rattle.vr_mem.specs.Seen.{hidden}
use Rattle.vr_mem.proofs.Places.{made_of, place_within, room_changed, rooms_set}
use Rattle.vr_mem.proofs.rooms.MemRooms.hide.Goals as goal

pub index_mut-requires : goal.index_mut-requires
index_mut-requires c = let w = place_within c.place-place.new.self c.args.at c.place-place.result c.place-place.ensures.rooms c.place-place.ensures.place in omega arith

pub returns-clause-rooms : goal.returns-clause-rooms
returns-clause-rooms c = rooms_set c.place-place.new.self _ c.place-place.result c.hide.new.self c.place-place.ensures.rooms c.place-place.ensures.own refl refl (omega arith)

pub returns-clause-same : goal.returns-clause-same
returns-clause-same c =
    made_of hidden c.args.self.now _ c.args.at c.index_mut.result.now c.hide.new.self
    (room_changed c.args.self.now c.place-place.new.self c.args.at c.place-place.result c.index_mut.result.now c.hide.new.self c.place-place.ensures.rooms c.place-place.ensures.same c.requires.at c.place-place.ensures.own c.place-place.ensures.place c.index_mut.ensures.value)
    c.hide.ensures
