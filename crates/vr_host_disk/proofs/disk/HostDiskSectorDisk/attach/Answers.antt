use Rattle.std.proofs.Common.{rules}
use Rattle.vr_lie.specs.Told.{held_by, told_by, version_by}
use Rattle.vr_host_disk.proofs.Telling.{told_attached}
use Rattle.vr_host_disk.proofs.disk.HostDiskSectorDisk.attach.Goals as goal

pub returns : goal.returns
returns c =
    let old = c.args.self.now.lie in
    let new = c.attach.new.self in
    record {
      told = told_attached (version_by old) (version_by new) c.args.name.now (told_by old) (told_by new) _ (held_by old) (held_by new) c.attach.ensures.version c.attach.ensures.held c.attach.ensures.told;
      cause = search rules;
      others = search rules;
      version = search rules;
    }
