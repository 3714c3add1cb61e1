use Rattle.vr_mem.proofs.Places.{cell_here, place_is, room_here}
use Rattle.vr_mem.proofs.rooms.MemRooms.room.Goals as goal

pub returns-clause-room : goal.returns-clause-room
returns-clause-room c = room_here c.args.self.now c.args.at c.index.result.now c.index-2.result.now c.requires.rooms c.requires.at (place_is c.args.self.now c.args.at c.index.result.now c.requires.rooms c.requires.at c.index.ensures) c.index-2.ensures

pub returns-clause-cell : goal.returns-clause-cell
returns-clause-cell c = cell_here c.args.self.now c.args.at c.index-2.result.now c.requires.rooms c.requires.at (returns-clause-room c)
