use Rattle.std.proofs.Common.{rules}
use Rattle.vr_disk.specs.DiskState.{Write}
use Rattle.vr_lie.specs.Told.{held_by, told_by, version_by}
use Rattle.vr_host_disk.proofs.Telling.{told_one}
use Rattle.vr_host_disk.proofs.disk.HostDiskSectorDisk.write.Goals as goal

pub returns : goal.returns
returns c =
    let old = c.args.self.now.lie in
    let new = c.write.new.self in
    let call = Write c.args.i c.args.from.now.bytes in
    record {
      told = told_one (version_by old) (version_by new) (told_by old) (told_by new) call _ (held_by old) (held_by new) c.write.ensures.version old.table.count new.table.count c.write.ensures.told c.write.ensures.held;
      cause = search rules;
      others = search rules;
      version = search rules;
    }
