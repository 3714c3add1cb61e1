use Rattle.std.proofs.Common.{◌≡◌, drop, true}
use Rattle.vr_disk.specs.DiskState.{settled}
use Rattle.vr_mem.specs.Seen.{AreRooms, once, rooms_of, seen, waiting_of}
use Rattle.vr_mem.proofs.rooms.settle_all.Given as goal

abbrev pub invariant-loop-w : goal.invariant-loop-w
invariant-loop-w l = record {
  same : settled l.rest (waiting_of l.kept (rooms_of l.rooms) (drop l.w-index l.waiting)) (seen l.rooms) ≡ settled l.code (waiting_of l.kept (rooms_of l.fn.rooms) l.waiting) (seen l.fn.rooms);
  once : once (waiting_of l.kept (rooms_of l.rooms) (drop l.w-index l.waiting)) ≡ true;
  rooms : AreRooms l.rooms;
}
