use Rattle.std.proofs.Common.{rules}
use Rattle.vr_lie.specs.Told.{held_by, told_by, told_is_whole, version_by}
use Rattle.vr_host_disk.proofs.Telling.{fault_done, fault_kept_out}
use Rattle.vr_host_disk.proofs.disk.HostDisk.fault.Goals as goal

pub returns : goal.returns
returns c =
    let old = c.args.self.now.lie in
    let new = c.fault.new.self in
    let fault = c.fault.ensures in
    record {
      done = λ e. fault_done (version_by old) (version_by new) (told_by old) (told_by new) (held_by old) (held_by new) c.args.fault.now fault.version (told_is_whole old) (told_is_whole new) new.table.count (fault.exact.0 e) (fault.done e) (fault.held e);
      kept_out = λ e. fault_kept_out (version_by old) (told_by old) (held_by old) c.args.fault.now (λ k. let y = fault.exact.1 k in cc);
      kept = search rules;
      fate = search rules;
      told = search rules;
      version = search rules;
      faults = search rules;
      read_faults = search rules;
    }
