use Rattle.std.proofs.Common.{rules, ◌≡◌, Err}
use Rattle.vr_disk.specs.declared.fault.Halt.TheVariants.{NoMemory}
use Rattle.vr_rules.specs.Outputs.{send_to_all, start_view_change}
use Rattle.vr_rules.specs.Words.{entered, save}
use Rattle.vr_rules.proofs.Stepping.{change_by_then, does_no_memory, does_stopped, does_then, says_by}
use Rattle.vr_rules.proofs.Versions.{entered_stays}
use Rattle.vr_actions.proofs.words.enter_now.Goals as goal

pub returns-in_err-save-clause-acts : goal.returns-in_err-save-clause-acts
returns-in_err-save-clause-acts g c =
    let is : c.from_residual.result ≡ Err c.in_err-save.field-0.0 = search rules in
    record {
      ready = search rules;
      cause = search rules;
      step =
          rw is
          (change_by_then (entered c.args.view) _ _ _ _ _ _ _ _ _ c.turn_to.ensures.entered (entered_stays _ _)
          (does_stopped save _ _ _ _ _ _ _ _ _ _ c.in_err-save.ensures.acts.step));
    }

pub returns-in_err-tell_change-clause-acts : goal.returns-in_err-tell_change-clause-acts
returns-in_err-tell_change-clause-acts g c =
    let is : c.from_residual-in_err-tell_change.result ≡ Err NoMemory = search rules in
    record {
      ready = search rules;
      cause = search rules;
      step =
          rw is
          (change_by_then (entered c.args.view) _ _ _ _ _ _ _ _ _ c.turn_to.ensures.entered (entered_stays _ _)
          (does_then save _ _ _ _ _ _ _ _ _ _ _ c.in_ok-save.ensures.acts.step (does_no_memory _ _ _ _ _ _)));
    }

pub returns-clause-acts : goal.returns-clause-acts
returns-clause-acts g c =
    record {
      ready = c.in_ok-save.ensures.acts.ready;
      cause = search rules;
      step =
          change_by_then (entered c.args.view) _ _ _ _ _ _ _ _ _ c.turn_to.ensures.entered (entered_stays _ _)
          (does_then save _ _ _ _ _ _ _ _ _ _ _ c.in_ok-save.ensures.acts.step (says_by (send_to_all start_view_change) _ _ _ _ c.in_ok-tell_change.ensures));
    }
