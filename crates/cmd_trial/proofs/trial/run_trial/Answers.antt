use Rattle.std.proofs.Common.{rules}
use Rattle.cmd_trial.specs.Told.{trial_of}
use Rattle.cmd_trial.proofs.Causes.{ended_link, ended_spawn}
use Rattle.cmd_trial.proofs.trial.run_trial.Goals as goal

pub returns : goal.returns
returns g c = record {
  ends = search rules;
  write = c.take_or_end.ensures.write;
  links = c.take_or_end.ensures.links;
  link = ended_link (trial_of c.args.plan.now) _ _ _ _ _ c.take_or_end.result c.take_or_end.ensures.ends;
  spawn = ended_spawn (trial_of c.args.plan.now) _ _ _ _ _ c.take_or_end.result c.take_or_end.ensures.ends;
}
