use Rattle.std.proofs.Common.{◌≡◌, drop}
use Rattle.cmd_client.specs.Asking.{client_of}
use Rattle.vr_base.specs.declared.status.Status.{Status}
use Rattle.cmd_trial.specs.Parts.{faults_of, place_of}
use Rattle.cmd_trial.specs.Run.{DoesAll, FailsIn, Faults, Place}
use Rattle.cmd_trial.specs.Script.{AreNext}
use Rattle.cmd_trial.specs.Told.{trial_of}
use Rattle.cmd_trial.proofs.trial.take_all.Given as goal

abbrev pub invariant-loop-step : goal.invariant-loop-step
invariant-loop-step g l = record {
  does : (last : Place)
      → DoesAll (trial_of l.plan) (drop l.step-index l.steps) (place_of g.K.Sink g.L.Link g.P.Spawner l.course l.sink l.link l.spawner) last
      → DoesAll (trial_of l.plan) l.steps (place_of g.K.Sink g.L.Link g.P.Spawner l.fn.course l.fn.sink l.fn.link l.fn.spawner) last;
  fails : (last : Place) (now : Faults) (status : Status)
      → FailsIn (trial_of l.plan) (drop l.step-index l.steps) (place_of g.K.Sink g.L.Link g.P.Spawner l.course l.sink l.link l.spawner) last
      (faults_of g.K.Sink g.L.Link g.P.Spawner l.fn.sink l.fn.link l.fn.spawner) now status
      → FailsIn (trial_of l.plan) l.steps (place_of g.K.Sink g.L.Link g.P.Spawner l.fn.course l.fn.sink l.fn.link l.fn.spawner) last
      (faults_of g.K.Sink g.L.Link g.P.Spawner l.fn.sink l.fn.link l.fn.spawner) now status;
  client : client_of l.course.core l.plan.turns ≡ (trial_of l.plan).client;
  next : AreNext l.course.core.number (drop l.step-index l.steps);
  link : g.L.Link.faults l.link ≡ g.L.Link.faults l.fn.link;
  sink : g.K.Sink.faults l.sink ≡ g.K.Sink.faults l.fn.sink;
  spawner : g.P.Spawner.faults l.spawner ≡ g.P.Spawner.faults l.fn.spawner;
}
