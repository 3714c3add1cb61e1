use Rattle.std.proofs.Common.{◌∙◌, ◌∷◌, ◌++◌, [], ap, arith, List}
use Rattle.vr_mem.specs.declared.room.MemRoom.{MemRoom}
use Rattle.vr_mem.proofs.Places.{rooms_made, seen_made}
use Rattle.vr_mem.proofs.rooms.MemRooms.new.Goals as goal

pub returns-clause-zeros : goal.returns-clause-zeros
returns-clause-zeros c =
    seen_made (record { places = c.in_ok-places.places; rooms = c.push_reserved.new.self }) c.zero.result.now (c.in_ok-places.ensures.items_if_clones_equal (λ y e. e))
    (c.push_reserved.ensures.items ∙ ap (λ (xs : List MemRoom). xs ++ c.zero.result.now ∷ []) c.in_ok-rooms.ensures.items) c.zero.ensures

pub returns-clause-whole : goal.returns-clause-whole
returns-clause-whole c =
    rooms_made (record { places = c.in_ok-places.places; rooms = c.push_reserved.new.self }) c.zero.result.now (c.in_ok-places.ensures.items_if_clones_equal (λ y e. e))
    (c.push_reserved.ensures.items ∙ ap (λ (xs : List MemRoom). xs ++ c.zero.result.now ∷ []) c.in_ok-rooms.ensures.items) c.zero.ensures
    (let a = c.in_ok-rooms.ensures.capacity in let b = c.push_reserved.ensures.capacity in omega arith)
