use Rattle.std.proofs.Common.{refl, rules, ◌≡◌, Err}
use Rattle.vr_base.specs.Bytes.{name_of}
use Rattle.vr_disk.specs.declared.fault.Halt.TheVariants.{NoMemory}
use Rattle.vr_rules.specs.Outputs.{prepare_ok, to_primary}
use Rattle.vr_rules.specs.Words.{accept, rested}
use Rattle.vr_rules.proofs.Stepping.{change_by_then, does_no_memory, does_stopped, does_then, says_by_then}
use Rattle.vr_normal.proofs.storing.store_known.Goals as goal

pub returns-in_err-accept : goal.returns-in_err-accept
returns-in_err-accept g c =
    let is : c.from_residual.result ≡ Err c.in_err-accept.field-0.0 = search rules in
    record {
      ready = search rules;
      cause = search rules;
      step = rw is (change_by_then rested _ _ _ _ _ _ _ _ _ c.rest.ensures.rested refl (does_stopped (accept c.args.prepare.now.entry) _ _ _ _ _ _ _ _ _ _ c.in_err-accept.ensures.acts.step));
    }

pub returns-in_err-acknowledge : goal.returns-in_err-acknowledge
returns-in_err-acknowledge g c =
    let is : c.from_residual-in_err-acknowledge.result ≡ Err NoMemory = search rules in
    record {
      ready = search rules;
      cause = search rules;
      step =
          rw is
          (change_by_then rested _ _ _ _ _ _ _ _ _ c.rest.ensures.rested refl
          (does_then (accept c.args.prepare.now.entry) _ _ _ _ _ _ _ _ _ _ _ c.in_ok-accept.ensures.acts.step (does_no_memory _ _ _ _ _ _)));
    }

pub returns : goal.returns
returns g c =
    record {
      ready = c.learn.ensures.ready;
      cause = search rules;
      step =
          change_by_then rested _ _ _ _ _ _ _ _ _ c.rest.ensures.rested refl
          (does_then (accept c.args.prepare.now.entry) _ _ _ _ _ _ _ _ _ _ _ c.in_ok-accept.ensures.acts.step
          (says_by_then (to_primary (prepare_ok name_of c.args.prepare.now.entry.header)) _ _ _ _ _ _ _ _ _ (rw c.header.ensures.value at c.in_ok-acknowledge.ensures) c.learn.ensures.step));
    }
