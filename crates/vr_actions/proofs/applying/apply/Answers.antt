use Rattle.std.proofs.Common.{arith, rules, ◌≡◌, ◌∙◌, Err}
use Rattle.vr_rules.specs.Words.{apply_next}
use Rattle.vr_rules.proofs.Stepping.{looping_goes}
use Rattle.vr_actions.proofs.Applies.{apply_ends, apply_stops}
use Rattle.vr_actions.proofs.applying.apply.Goals as goal

pub loop-i-preserved : goal.loop-i-preserved
loop-i-preserved g c =
    let spent = c.in_ok-apply_next.ensures.spends.spent in
    let before = c.loop-i.invariant.spent in
    record {
      ready = c.in_ok-apply_next.ensures.acts.ready;
      view = c.in_ok-apply_next.ensures.spends.view ∙ c.loop-i.invariant.view;
      spent = omega (arith, spent, before);
      faults = c.in_ok-apply_next.ensures.acts.cause.kept ∙ c.loop-i.invariant.faults;
      step = looping_goes apply_next _ _ _ _ _ _ _ _ _ _ _ c.loop-i-test.true c.loop-i.invariant.step c.in_ok-apply_next.ensures.acts.step;
    }

pub returns-in_err-apply_next : goal.returns-in_err-apply_next
returns-in_err-apply_next g c =
    let is : c.from_residual.result ≡ Err c.in_err-apply_next.field-0.0 = search rules in
    record {
      ready = search rules;
      cause = search rules;
      step = rw is (apply_stops _ _ _ _ _ _ _ _ _ _ _ _ _ _ c.to_apply-times.ensures.value c.loop-i-test.true c.loop-i.invariant.step c.in_err-apply_next.ensures.acts.step);
    }

pub returns : goal.returns
returns g c =
    record {
      ready = c.loop-i.invariant.ready;
      cause = search rules;
      step = apply_ends _ _ _ _ _ _ _ _ c.to_apply-times.ensures.value c.loop-i-test.false c.loop-i.invariant.step;
    }
