use Rattle.std.proofs.Common.{◌-◌, ◌≡◌, Bool, Option}
use Rattle.vr_disk.specs.DiskState.{Disk, Runs}
use Rattle.vr_super.specs.Calls.{save_from}
use Rattle.vr_super.specs.Copies.{copy_of}
use Rattle.vr_super.proofs.writing.save.Given as goal

abbrev pub invariant-loop-copy : goal.invariant-loop-copy
invariant-loop-copy g l = record {
  runs : (new : Option Disk) (ok : Bool) → Runs (save_from l.copy (4 - l.copy) (copy_of l.text)) (g.D.SectorDisk.told l.disk) new ok → Runs (save_from 0 4 (copy_of l.text)) (g.D.SectorDisk.told l.fn.disk) new ok;
  faults : g.D.SectorDisk.faults l.disk ≡ g.D.SectorDisk.faults l.fn.disk;
  others : g.D.SectorDisk.read_faults l.disk ≡ g.D.SectorDisk.read_faults l.fn.disk;
}
