use Rattle.std.proofs.Common.{rules}
use Rattle.vr_lie.specs.Told.{held_by, told_by, version_by}
use Rattle.vr_host_disk.proofs.Telling.{zeros_lie}
use Rattle.vr_host_disk.proofs.disk.HostDisk.new.Goals as goal

pub returns : goal.returns
returns c =
    let m = c.in_ok-new.field-0 in
    record {
      lying = zeros_lie c.args.version (version_by m) (told_by m) (held_by m) c.in_ok-new.ensures.version c.in_ok-new.ensures.face c.in_ok-new.ensures.held;
      fate = search rules;
      told = search rules;
      faults = search rules;
      read_faults = search rules;
    }
