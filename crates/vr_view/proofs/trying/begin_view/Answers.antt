use Rattle.std.proofs.Common.{rules, ◌≡◌, Err}
use Rattle.std.specs.Prelude.{if◌then◌else◌}
use Rattle.vr_disk.specs.declared.fault.Halt.TheVariants.{NoMemory}
use Rattle.vr_rules.specs.Outputs.{send_to_all, start_view}
use Rattle.vr_rules.specs.Replica.{Replica, is_alone}
use Rattle.vr_rules.specs.Words.{advance, apply, choose_line, prepare_again, take}
use Rattle.vr_rules.proofs.Stepping.{does_by, does_no_memory, does_stopped, does_then, says_by_then}
use Rattle.vr_actions.specs.Telling.{each_to}
use Rattle.vr_view.proofs.Choices.{begins}
use Rattle.vr_view.proofs.trying.begin_view.Goals as goal

pub returns-in_err-tell_choice : goal.returns-in_err-tell_choice
returns-in_err-tell_choice g c =
    let is : c.from_residual.result ≡ Err NoMemory = search rules in
    record { ready = search rules; cause = search rules; step = rw is (does_no_memory _ _ _ _ _ _) }

pub returns-in_err-take : goal.returns-in_err-take
returns-in_err-take g c =
    let is : c.from_residual-in_err-take.result ≡ Err c.in_err-take.field-0.0 = search rules in
    record {
      ready = search rules;
      cause = search rules;
      step =
          rw is
          (begins _ _ _ _ _ _ _ _ _
          (says_by_then (choose_line c.args.statements.now c.args.log.now) _ _ _ _ _ _ _ _ _ c.in_ok-tell_choice.ensures
          (does_stopped (take c.args.log.now) _ _ _ _ _ _ _ _ _ _ c.in_err-take.ensures.acts.step)));
    }

pub returns-in_err-tell_views : goal.returns-in_err-tell_views
returns-in_err-tell_views g c =
    let is : c.from_residual-in_err-tell_views.result ≡ Err NoMemory = search rules in
    record {
      ready = search rules;
      cause = search rules;
      step =
          rw is
          (begins _ _ _ _ _ _ _ _ _
          (says_by_then (choose_line c.args.statements.now c.args.log.now) _ _ _ _ _ _ _ _ _ c.in_ok-tell_choice.ensures
          (does_then (take c.args.log.now) _ _ _ _ _ _ _ _ _ _ _ c.in_ok-take.ensures.acts.step (does_no_memory _ _ _ _ _ _))));
    }

pub returns-in_err-prepare_all : goal.returns-in_err-prepare_all
returns-in_err-prepare_all g c =
    let is : c.from_residual-in_err-prepare_all.result ≡ Err c.in_err-prepare_all.field-0.0 = search rules in
    record {
      ready = search rules;
      cause = search rules;
      step =
          rw is
          (begins _ _ _ _ _ _ _ _ _
          (says_by_then (choose_line c.args.statements.now c.args.log.now) _ _ _ _ _ _ _ _ _ c.in_ok-tell_choice.ensures
          (does_then (take c.args.log.now) _ _ _ _ _ _ _ _ _ _ _ c.in_ok-take.ensures.acts.step
          (says_by_then (send_to_all start_view) _ _ _ _ _ _ _ _ _ c.in_ok-tell_views.ensures
          (does_stopped (each_to prepare_again c.args.log.now.head) _ _ _ _ _ _ _ _ _ _ c.in_err-prepare_all.ensures.acts.step)))));
    }

pub returns : goal.returns
returns g c =
    record {
      ready = c.apply_log.ensures.ready;
      cause = search rules;
      step =
          begins _ _ _ _ _ _ _ _ _
          (says_by_then (choose_line c.args.statements.now c.args.log.now) _ _ _ _ _ _ _ _ _ c.in_ok-tell_choice.ensures
          (does_then (take c.args.log.now) _ _ _ _ _ _ _ _ _ _ _ c.in_ok-take.ensures.acts.step
          (says_by_then (send_to_all start_view) _ _ _ _ _ _ _ _ _ c.in_ok-tell_views.ensures
          (does_then (each_to prepare_again c.args.log.now.head) _ _ _ _ _ _ _ _ _ _ _ c.in_ok-prepare_all.ensures.acts.step
          (does_by (λ (r : Replica). if is_alone r then advance else apply) _ _ _ _ _ _ _ c.apply_log.ensures.step)))));
    }
