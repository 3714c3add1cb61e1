use Rattle.std.proofs.Common.{rules, ◌≡◌, Err}
use Rattle.vr_rules.specs.Words.{apply, load}
use Rattle.vr_rules.proofs.Stepping.{does_stopped, does_then}
use Rattle.vr_opening.proofs.begin.load_on.Goals as goal

pub returns-in_err-load : goal.returns-in_err-load
returns-in_err-load g c =
    let is : c.from_residual.result ≡ Err c.in_err-load.field-0.0 = search rules in
    record { ready = search rules; cause = search rules; step = rw is (does_stopped load _ _ _ _ _ _ _ _ _ _ c.in_err-load.ensures.acts.step) }

pub returns-in_err-apply : goal.returns-in_err-apply
returns-in_err-apply g c =
    let is : c.from_residual-in_err-apply.result ≡ Err c.in_err-apply.field-0.0 = search rules in
    record {
      ready = search rules;
      cause = search rules;
      step =
          rw is
          (does_then load _ _ _ _ _ _ _ _ _ _ _ c.in_ok-load.ensures.acts.step
          (does_stopped apply _ _ _ _ _ _ _ _ _ _ c.in_err-apply.ensures.step));
    }

pub returns : goal.returns
returns g c =
    record {
      ready = c.announce.ensures.ready;
      cause = search rules;
      step =
          does_then load _ _ _ _ _ _ _ _ _ _ _ c.in_ok-load.ensures.acts.step
          (does_then apply _ _ _ _ _ _ _ _ _ _ _ c.in_ok-apply.ensures.step c.announce.ensures.step);
    }
