use Rattle.std.proofs.Common.{◌≡◌, List, drop}
use Rattle.vr_disk.specs.DiskState.{digit_at}
use Rattle.vr_mem.specs.declared.room.MemKept.{MemKept}
use Rattle.vr_mem.specs.declared.room.MemRoom.{MemRoom}
use Rattle.vr_mem.specs.Seen.{waiting_of}
use Rattle.vr_mem.proofs.waits.digit.Given as goal

abbrev pub invariant-loop-w : goal.invariant-loop-w
invariant-loop-w l = (kept : List MemKept) (rooms : List MemRoom) → digit_at l.rest l.index (waiting_of kept rooms (drop l.w-index l.waiting)) ≡ digit_at l.code l.index (waiting_of kept rooms l.waiting)
