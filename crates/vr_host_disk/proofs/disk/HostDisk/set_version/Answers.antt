use Rattle.std.proofs.Common.{rules}
use Rattle.vr_lie.specs.Told.{held_by, told_by, version_by}
use Rattle.vr_host_disk.proofs.Telling.{edition_set}
use Rattle.vr_host_disk.proofs.disk.HostDisk.set_version.Goals as goal

pub returns : goal.returns
returns c =
    let old = c.args.self.now.lie in
    let new = c.set_version.new.self in
    record {
      lying = edition_set (version_by old) (version_by new) c.args.version (told_by old) (told_by new) (held_by old) (held_by new) c.set_version.ensures.version new.table.count c.set_version.ensures.told c.set_version.ensures.held;
      version = search rules;
      told = search rules;
      fate = search rules;
      faults = search rules;
      read_faults = search rules;
    }
