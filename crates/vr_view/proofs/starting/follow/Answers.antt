use Rattle.std.proofs.Common.{rules, ◌≡◌, Err}
use Rattle.vr_base.specs.Bytes.{name_of}
use Rattle.vr_disk.specs.declared.fault.Halt.TheVariants.{NoMemory}
use Rattle.vr_rules.specs.Rules.{acknowledge_stored}
use Rattle.vr_rules.specs.Words.{take}
use Rattle.vr_rules.proofs.Stepping.{does_no_memory, does_stopped, does_then}
use Rattle.vr_actions.specs.Telling.{each_to}
use Rattle.vr_actions.proofs.Acks.{told_to}
use Rattle.vr_view.proofs.starting.follow.Goals as goal

pub returns : goal.returns
returns g c =
    record {
      ready = c.apply.ensures.ready;
      cause = search rules;
      step =
          does_then (take c.args.log.now) _ _ _ _ _ _ _ _ _ _ _ c.in_ok-take.ensures.acts.step
          (does_then (each_to (acknowledge_stored name_of) c.args.log.now.head) _ _ _ _ _ _ _ _ _ _ _ (told_to (acknowledge_stored name_of) _ _ _ _ _ _ c.head_of.ensures c.in_ok-acknowledge_all.ensures) c.apply.ensures.step);
    }

pub returns-in_err-take : goal.returns-in_err-take
returns-in_err-take g c =
    let is : c.from_residual.result ≡ Err c.in_err-take.field-0.0 = search rules in
    record { ready = search rules; cause = search rules; step = rw is (does_stopped (take c.args.log.now) _ _ _ _ _ _ _ _ _ _ c.in_err-take.ensures.acts.step) }

pub returns-in_err-acknowledge_all : goal.returns-in_err-acknowledge_all
returns-in_err-acknowledge_all g c =
    let is : c.from_residual-in_err-acknowledge_all.result ≡ Err NoMemory = search rules in
    record {
      ready = search rules;
      cause = search rules;
      step = rw is (does_then (take c.args.log.now) _ _ _ _ _ _ _ _ _ _ _ c.in_ok-take.ensures.acts.step (does_no_memory _ _ _ _ _ _));
    }
