use Rattle.std.proofs.Common.{◌≡◌}
use Rattle.vr_rules.specs.Formatting.{zero_prepares}
use Rattle.vr_opening.specs.Calls.{prepares_end, zero_call, calls_from, Making}
use Rattle.vr_opening.proofs.formatting.zero_prepares.Given as goal

abbrev pub invariant-loop-i : goal.invariant-loop-i
invariant-loop-i g l = record {
  making : Making (zero_prepares l.fn.version) (calls_from zero_call l.i (prepares_end l.fn.version)) (g.D.SectorDisk.told l.fn.disk) (g.D.SectorDisk.told l.disk);
  faults : g.D.SectorDisk.faults l.disk ≡ g.D.SectorDisk.faults l.fn.disk;
}
