use Rattle.cmd_trial.specs.Parts.{faults_of, place_of}
use Rattle.cmd_trial.specs.Told.{trial_of}
use Rattle.cmd_trial.proofs.Runs.{broke_off}
use Rattle.cmd_trial.proofs.trial.take_or_end.Goals as goal

pub returns-in-Err : goal.returns-in-Err
returns-in-Err g c = record {
  ends =
      broke_off (trial_of c.args.plan.now) c.args.steps.now
      (place_of g.K.Sink g.L.Link g.P.Spawner c.args.course.now c.args.sink.now c.args.link.now c.args.spawner.now)
      (place_of g.K.Sink g.L.Link g.P.Spawner c.take_all.new.course c.take_all.new.sink c.take_all.new.link c.take_all.new.spawner)
      c.as_slice.result.now (g.P.Spawner.calls c.stop_all.new.spawner)
      (faults_of g.K.Sink g.L.Link g.P.Spawner c.args.sink.now c.args.link.now c.args.spawner.now)
      (g.L.Link.faults c.take_all.new.link) (g.K.Sink.faults c.take_all.new.sink) (g.P.Spawner.faults c.take_all.new.spawner) (g.P.Spawner.faults c.stop_all.new.spawner)
      c.in-Err.status c.as_slice.ensures c.in-Err.ensures.counts.spawns c.stop_all.ensures.later c.in-Err.ensures.fails c.stop_all.ensures.stops;
  links = c.in-Err.ensures.counts.links;
  write = c.in-Err.ensures.counts.writes;
}
