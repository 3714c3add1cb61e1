use Rattle.std.proofs.Common.{◌<◌, ◌∙◌, length, refl, arith}
use Rattle.cmd_trial.specs.Parts.{place_of}
use Rattle.cmd_trial.specs.Told.{trial_of}
use Rattle.cmd_trial.proofs.Runs.{does_then, fails_then, next_then}
use Rattle.cmd_trial.proofs.trial.take_all.Goals as goal

pub loop-step-preserved : goal.loop-step-preserved
loop-step-preserved g c =
    let t = trial_of c.args.plan.now in
    let i = c.loop-step.step-index in
    let so_far = c.loop-step.invariant in
    let taken = c.in_ok-take.ensures in
    let lt : c.loop-step.step-index < length c.args.steps.now = omega arith in
    let p = place_of g.K.Sink g.L.Link g.P.Spawner c.loop-step.course c.loop-step.sink c.loop-step.link c.loop-step.spawner in
    let q = place_of g.K.Sink g.L.Link g.P.Spawner c.take.new.self c.take.new.sink c.take.new.link c.take.new.spawner in
    record {
      does = λ last rest. so_far.does last (does_then t c.args.steps.now i _ _ p q last lt refl taken.does rest);
      fails = λ last now status rest. so_far.fails last now status (fails_then t c.args.steps.now i _ _ p q last _ now status lt refl taken.does rest);
      client = taken.client ∙ so_far.client;
      next = next_then c.args.steps.now i _ _ _ _ lt refl taken.number so_far.next;
      link = taken.counts.links ∙ so_far.link;
      sink = taken.counts.writes ∙ so_far.sink;
      spawner = taken.counts.spawns ∙ so_far.spawner;
    }
