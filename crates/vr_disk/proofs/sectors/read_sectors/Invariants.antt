use Rattle.std.proofs.Common.{◌≡◌, ◌+◌, ◌-◌, ◌*◌, length, take, Some}
use Rattle.vr_disk.specs.DiskState.{Disk}
use Rattle.vr_disk.specs.Sectors.{behind, together}
use Rattle.vr_disk.proofs.sectors.read_sectors.Given as goal

abbrev pub invariant-loop-k : goal.invariant-loop-k
invariant-loop-k g l = record {
  told : g.D.SectorDisk.told l.disk ≡ g.D.SectorDisk.told l.fn.disk;
  faults : g.D.SectorDisk.faults l.disk ≡ g.D.SectorDisk.faults l.fn.disk;
  read_faults : g.D.SectorDisk.read_faults l.disk ≡ g.D.SectorDisk.read_faults l.fn.disk;
  size : length l.to ≡ 512 * l.count;
  rest : (d : Disk) → g.D.SectorDisk.told l.fn.disk ≡ Some d → together l.at l.count d.face ≡ behind (Some (take (512 * l.k) l.to)) (together (l.at + l.k) (l.count - l.k) d.face);
}
