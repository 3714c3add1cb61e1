use Rattle.std.proofs.Common.{◌≡◌}
use Rattle.vr_rings.proofs.Relocated.{Moved}
use Rattle.vr_rings.proofs.relocating.move_all.Given as goal

abbrev pub invariant-loop-slot : goal.invariant-loop-slot
invariant-loop-slot g l = record {
  moved : Moved l.slot (g.D.SectorDisk.told l.fn.disk) (g.D.SectorDisk.told l.disk);
  faults : g.D.SectorDisk.faults l.disk ≡ g.D.SectorDisk.faults l.fn.disk;
}
