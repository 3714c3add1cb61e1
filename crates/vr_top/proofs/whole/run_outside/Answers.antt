use Rattle.std.proofs.Common.{rules}
use Rattle.vr_base.specs.declared.status.Status.TheVariants.{NoMemory}
use Rattle.vr_top.proofs.Begun.{grounded, groundless}
use Rattle.vr_top.proofs.whole.run_outside.Goals as goal

pub returns-then-not-take_ground : goal.returns-then-not-take_ground
returns-then-not-take_ground g c = record {
  status = NoMemory;
  came = groundless _ _ _ _ (search rules) c.take_ground.ensures;
  code_is = c.finish.ensures.code;
  told = c.finish.ensures.told;
}

pub returns : goal.returns
returns g c = record {
  status = c.unwrap_or-status.result;
  came = rw c.unwrap_or-status.ensures (grounded _ _ _ _ _ _ (search rules) c.take_ground.ensures c.make_and_run.ensures);
  code_is = c.finish-2.ensures.code;
  told = c.finish-2.ensures.told;
}
