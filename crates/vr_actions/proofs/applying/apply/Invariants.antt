use Rattle.std.proofs.Common.{◌≡◌, ◌+◌, ◌≤◌}
use Rattle.vr_rules.specs.Words.{apply_next}
use Rattle.vr_rules.specs.Does.{Looping}
use Rattle.vr_volatile.specs.Ready.{IsReady}
use Rattle.vr_actions.proofs.applying.apply.Given as goal

abbrev pub invariant-loop-i : goal.invariant-loop-i
invariant-loop-i g l = record {
  ready : IsReady l.replica;
  view : l.replica.view ≡ l.initial.replica.view;
  spent : l.replica.saved.fields.sequence ≤ l.initial.replica.saved.fields.sequence + l.i;
  faults : g.D.SectorDisk.faults l.disk ≡ g.D.SectorDisk.faults l.initial.disk;
  step : Looping apply_next l.times l.i l.initial.replica l.replica (g.D.SectorDisk.told l.initial.disk) (g.D.SectorDisk.told l.disk) l.initial.out l.out;
}
