use Rattle.std.proofs.Common.{◌≡◌, ◌+◌}
use Rattle.vr_rules.specs.Opening.{recover_op}
use Rattle.vr_rules.specs.Does.{Going}
use Rattle.vr_opening.specs.Finding.{IsOpening, window_of}
use Rattle.vr_opening.proofs.opening.recover_window.Given as goal

abbrev pub invariant-loop-i : goal.invariant-loop-i
invariant-loop-i g l = record {
  opening : IsOpening (l.initial.replica.saved.fields.checkpoint + l.i) l.replica;
  saved : l.replica.saved ≡ l.initial.replica.saved;
  faults : g.D.SectorDisk.faults l.disk ≡ g.D.SectorDisk.faults l.initial.disk;
  step : Going (recover_op l.initial.replica.saved) (window_of l.initial.replica.saved) l.i l.initial.replica l.replica (g.D.SectorDisk.told l.initial.disk) (g.D.SectorDisk.told l.disk) l.initial.out l.out;
}
