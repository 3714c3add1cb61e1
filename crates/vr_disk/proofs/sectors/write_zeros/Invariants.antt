use Rattle.std.specs.Prelude.{replicate}
use Rattle.std.proofs.Common.{◌≡◌, ◌+◌, ◌-◌, ◌*◌, drop, Bool, Option}
use Rattle.vr_disk.specs.DiskState.{Disk, Runs}
use Rattle.vr_disk.specs.Sectors.{writes}
use Rattle.vr_disk.proofs.sectors.write_zeros.Given as goal

abbrev pub invariant-loop-k : goal.invariant-loop-k
invariant-loop-k g l = record {
  runs : (new : Option Disk) (ok : Bool) → Runs (writes (l.at + l.k) (l.count - l.k) (drop (512 * l.k) (replicate (512 * l.count) 0))) (g.D.SectorDisk.told l.disk) new ok → Runs (writes l.at l.count (replicate (512 * l.count) 0)) (g.D.SectorDisk.told l.fn.disk) new ok;
  faults : g.D.SectorDisk.faults l.disk ≡ g.D.SectorDisk.faults l.fn.disk;
  others : g.D.SectorDisk.read_faults l.disk ≡ g.D.SectorDisk.read_faults l.fn.disk;
}
