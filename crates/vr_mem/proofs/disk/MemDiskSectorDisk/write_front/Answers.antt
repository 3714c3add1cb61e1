use Rattle.std.proofs.Common.{arith}
use Rattle.vr_disk.specs.DiskState.{Write}
use Rattle.vr_disk.specs.Fronts.{front}
use Rattle.vr_mem.specs.Cells.{disk_of}
use Rattle.vr_mem.proofs.Honest.{one_honest}
use Rattle.vr_mem.proofs.disk.MemDiskSectorDisk.write_front.Goals as goal

pub invariant_of-self : goal.invariant_of-self
invariant_of-self c = record {
  honest = one_honest (disk_of c.args.self.now.disk) (disk_of c.write_front.new.self) (Write c.args.i (front c.args.text.now)) _
      (let n = c.args.self.now.disk.sectors.whole.count in let i = c.requires.i in omega arith) c.args.self.now.honest c.write_front.ensures.told;
}
