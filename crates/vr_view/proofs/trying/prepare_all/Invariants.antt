use Rattle.std.proofs.Common.{◌≡◌}
use Rattle.vr_rules.specs.Words.{prepare_again}
use Rattle.vr_volatile.specs.Ready.{IsReady}
use Rattle.vr_actions.proofs.Goes.{GoesOver}
use Rattle.vr_view.proofs.trying.prepare_all.Given as goal

abbrev pub invariant-loop-i : goal.invariant-loop-i
invariant-loop-i g l = record {
  ready : IsReady l.replica;
  view : l.replica.view ≡ l.initial.replica.view;
  saved : l.replica.saved ≡ l.initial.replica.saved;
  faults : g.D.SectorDisk.faults l.disk ≡ g.D.SectorDisk.faults l.initial.disk;
  step : GoesOver prepare_again l.commit l.head l.i l.initial.replica l.replica (g.D.SectorDisk.told l.initial.disk) (g.D.SectorDisk.told l.disk) l.initial.out l.out;
}
