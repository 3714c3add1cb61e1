use Rattle.std.proofs.Common.{arith}
use Rattle.vr_disk.specs.DiskState.{Write}
use Rattle.vr_mem.specs.Cells.{disk_of}
use Rattle.vr_mem.proofs.Honest.{one_honest}
use Rattle.vr_mem.proofs.disk.MemDiskSectorDisk.write.Goals as goal

pub invariant_of-self : goal.invariant_of-self
invariant_of-self c = record {
  honest = one_honest (disk_of c.args.self.now.disk) (disk_of c.write.new.self) (Write c.args.i c.args.from.now.bytes) _
      (let n = c.args.self.now.disk.sectors.whole.count in let i = c.requires in omega arith) c.args.self.now.honest c.write.ensures.told;
}
