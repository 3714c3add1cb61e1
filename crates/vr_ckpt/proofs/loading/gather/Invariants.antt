use Rattle.std.proofs.Common.{◌≡◌, ◌≤◌, drop, Some}
use Rattle.vr_disk.specs.DiskState.{Disk}
use Rattle.vr_ckpt.specs.Loads.{behind, gathered}
use Rattle.vr_ckpt.proofs.loading.gather.Given as goal

abbrev pub invariant-loop-name : goal.invariant-loop-name
invariant-loop-name g l = record {
  told : g.D.SectorDisk.told l.disk ≡ g.D.SectorDisk.told l.fn.disk;
  faults : g.D.SectorDisk.faults l.disk ≡ g.D.SectorDisk.faults l.fn.disk;
  reads : g.D.SectorDisk.read_faults l.fn.disk ≤ g.D.SectorDisk.read_faults l.disk;
  rest : (d : Disk) → g.D.SectorDisk.told l.fn.disk ≡ Some d → gathered d.face l.size l.names ≡ behind l.payloads l.missing (gathered d.face l.left (drop l.name-index l.names));
}
