use Rattle.std.proofs.Common.{arith, refl, sym, ap, ◌∙◌}
use Rattle.std.proofs.lemmas.List.{set-get_or}
use Rattle.vr_mem.specs.Seen.{blank_room, room_at, room_of, rooms_of}
use Rattle.vr_mem.proofs.Places.{others_stay, place_within, room_changed, rooms_set}
use Rattle.vr_mem.proofs.Shelves.{shown_cell}
use Rattle.vr_mem.proofs.Zeros.{shown_zeros}
use Rattle.vr_mem.proofs.rooms.MemRooms.show.Goals as goal

pub index_mut-requires : goal.index_mut-requires
index_mut-requires c = let w = place_within c.place-place.new.self c.args.at c.place-place.result c.place-place.ensures.rooms c.place-place.ensures.place in omega arith

pub returns-clause-rooms : goal.returns-clause-rooms
returns-clause-rooms c = rooms_set c.place-place.new.self _ c.place-place.result c.show.new.self c.place-place.ensures.rooms c.place-place.ensures.own refl refl (omega arith)

pub returns-clause-others : goal.returns-clause-others
returns-clause-others c =
    others_stay c.args.self.now _ c.args.at c.index_mut.result.now c.show.new.self
    (room_changed c.args.self.now c.place-place.new.self c.args.at c.place-place.result c.index_mut.result.now c.show.new.self c.place-place.ensures.rooms c.place-place.ensures.same c.requires.at c.place-place.ensures.own c.place-place.ensures.place c.index_mut.ensures.value)

pub returns-clause-shown : goal.returns-clause-shown
returns-clause-shown c =
    let d = room_changed c.args.self.now c.place-place.new.self c.args.at c.place-place.result c.index_mut.result.now c.show.new.self c.place-place.ensures.rooms c.place-place.ensures.same c.requires.at c.place-place.ensures.own c.place-place.ensures.place c.index_mut.ensures.value in
    rw (d.here, d.there) (ap room_of c.show.ensures.room ∙ shown_cell c.index_mut.result.now c.args.bytes.now)

pub returns-then-has_zeros-clause-others : goal.returns-then-has_zeros-clause-others
returns-then-has_zeros-clause-others c = sym (set-get_or (rooms_of c.args.self.now) c.args.at blank_room)

pub returns-then-has_zeros-clause-shown : goal.returns-then-has_zeros-clause-shown
returns-then-has_zeros-clause-shown c = shown_zeros (room_at c.args.self.now c.args.at) c.args.bytes.now (c.has_zeros.ensures.none c.if-has_zeros.true) c.requires.size (c.has_zeros.ensures.zeros c.if-has_zeros.true)
