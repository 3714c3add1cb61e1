use Rattle.vr_disk.specs.DiskState.{Sync}
use Rattle.vr_mem.specs.Cells.{disk_of}
use Rattle.vr_mem.proofs.Honest.{one_honest}
use Rattle.vr_mem.proofs.disk.MemDiskSectorDisk.sync.Goals as goal

pub invariant_of-self : goal.invariant_of-self
invariant_of-self c = record { honest = one_honest (disk_of c.args.self.now.disk) (disk_of c.sync.new.self) Sync _ tt c.args.self.now.honest c.sync.ensures.told }
