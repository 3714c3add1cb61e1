use Rattle.std.proofs.Common.{◌≡◌}
use Rattle.vr_super.proofs.writing.keep_new_names.Given as goal

abbrev pub invariant-loop-at : goal.invariant-loop-at
invariant-loop-at g l = record {
  told : g.D.SectorDisk.told l.disk ≡ g.D.SectorDisk.told l.fn.disk;
  faults : g.D.SectorDisk.faults l.disk ≡ g.D.SectorDisk.faults l.fn.disk;
  reads : g.D.SectorDisk.read_faults l.disk ≡ g.D.SectorDisk.read_faults l.fn.disk;
}
