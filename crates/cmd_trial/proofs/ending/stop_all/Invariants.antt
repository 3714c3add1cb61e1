use Rattle.std.proofs.Common.{◌≤◌, drop}
use Rattle.cmd_trial.specs.Run.{Spawns, StopsAll, spawns}
use Rattle.cmd_trial.proofs.ending.stop_all.Given as goal

abbrev pub invariant-loop-id : goal.invariant-loop-id
invariant-loop-id g l = record {
  stops : (last : Spawns) → StopsAll (drop l.id-index l.running) (spawns (g.P.Spawner.calls l.spawner) (g.P.Spawner.faults l.spawner)) last
      → StopsAll l.running (spawns (g.P.Spawner.calls l.fn.spawner) (g.P.Spawner.faults l.fn.spawner)) last;
  later : g.P.Spawner.faults l.fn.spawner ≤ g.P.Spawner.faults l.spawner;
}
