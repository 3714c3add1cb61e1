use Rattle.std.proofs.Common.{◌≡◌, ◌≤◌}
use Rattle.vr_super.specs.Copies.{copy_of}
use Rattle.vr_super.proofs.Steps.{Mending}
use Rattle.vr_super.proofs.writing.mend.Given as goal

abbrev pub invariant-loop-copy : goal.invariant-loop-copy
invariant-loop-copy g l = record {
  mending : Mending (copy_of l.text) l.copy (g.D.SectorDisk.told l.fn.disk) (g.D.SectorDisk.told l.disk);
  faults : g.D.SectorDisk.faults l.disk ≡ g.D.SectorDisk.faults l.fn.disk;
  reads : g.D.SectorDisk.read_faults l.fn.disk ≤ g.D.SectorDisk.read_faults l.disk;
}
