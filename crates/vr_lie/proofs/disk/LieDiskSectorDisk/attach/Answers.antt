use Rattle.vr_mem.specs.Cells.{disk_of}
use Rattle.vr_lie.proofs.Calls.{attach_table}
use Rattle.vr_lie.proofs.disk.LieDiskSectorDisk.attach.Goals as goal

pub invariant_of-self : goal.invariant_of-self
invariant_of-self c = record { table = attach_table c.args.self.now.version c.args.name.now (disk_of c.args.self.now.disk) (disk_of c.attach.new.self) _ _ c.attach.ensures.told c.args.self.now.table }
