use Rattle.std.specs.Prelude.{replicate}
use Rattle.std.proofs.Common.{◌≡◌, ◌≤◌, ◌+◌, ◌-◌, ◌*◌, drop, Some}
use Rattle.vr_disk.specs.DiskState.{Disk}
use Rattle.vr_disk.specs.Sectors.{has, together}
use Rattle.vr_disk.proofs.sectors.are_zeros.Given as goal

abbrev pub invariant-loop-k : goal.invariant-loop-k
invariant-loop-k g l = record {
  told : g.D.SectorDisk.told l.disk ≡ g.D.SectorDisk.told l.fn.disk;
  faults : g.D.SectorDisk.faults l.disk ≡ g.D.SectorDisk.faults l.fn.disk;
  reads : g.D.SectorDisk.read_faults l.fn.disk ≤ g.D.SectorDisk.read_faults l.disk;
  rest : (d : Disk) → g.D.SectorDisk.told l.fn.disk ≡ Some d → has (replicate (512 * l.count) 0) (together l.at l.count d.face) ≡ has (drop (512 * l.k) (replicate (512 * l.count) 0)) (together (l.at + l.k) (l.count - l.k) d.face);
}
