use Rattle.std.proofs.Common.{◌≡◌, drop, Bool, Option}
use Rattle.vr_disk.specs.DiskState.{Disk, Runs}
use Rattle.vr_ckpt.specs.Saves.{blocks_calls}
use Rattle.vr_ckpt.proofs.saving.write_all.Given as goal

abbrev pub invariant-loop-block : goal.invariant-loop-block
invariant-loop-block g l = record {
  runs : (new : Option Disk) (ok : Bool) → Runs (blocks_calls (drop l.block-index l.blocks)) (g.D.SectorDisk.told l.disk) new ok → Runs (blocks_calls l.blocks) (g.D.SectorDisk.told l.fn.disk) new ok;
  faults : g.D.SectorDisk.faults l.disk ≡ g.D.SectorDisk.faults l.fn.disk;
  others : g.D.SectorDisk.read_faults l.disk ≡ g.D.SectorDisk.read_faults l.fn.disk;
}
