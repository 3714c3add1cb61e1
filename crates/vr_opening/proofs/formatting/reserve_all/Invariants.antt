use Rattle.std.proofs.Common.{◌≡◌}
use Rattle.vr_disk.specs.declared.regions.TheConstants.{SLOTS}
use Rattle.vr_rules.specs.Formatting.{reserved_headers}
use Rattle.vr_opening.specs.Calls.{reserved_call, calls_from, Making}
use Rattle.vr_opening.proofs.formatting.reserve_all.Given as goal

abbrev pub invariant-loop-slot : goal.invariant-loop-slot
invariant-loop-slot g l = record {
  making : Making (reserved_headers l.version l.cluster) (calls_from (reserved_call l.version l.cluster) l.slot SLOTS) (g.D.SectorDisk.told l.fn.disk) (g.D.SectorDisk.told l.disk);
  faults : g.D.SectorDisk.faults l.disk ≡ g.D.SectorDisk.faults l.fn.disk;
}
