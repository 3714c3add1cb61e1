use Rattle.vr_mem.specs.Cells.{disk_of}
use Rattle.vr_mem.proofs.Honest.{attach_honest}
use Rattle.vr_mem.proofs.disk.MemDiskSectorDisk.attach.Goals as goal

pub invariant_of-self : goal.invariant_of-self
invariant_of-self c = record { honest = attach_honest c.args.name.now (disk_of c.args.self.now.disk) (disk_of c.attach.new.self) _ c.args.self.now.honest c.attach.ensures.told }
