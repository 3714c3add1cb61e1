use Rattle.std.proofs.Common.{refl, rules, ◌≡◌, Err}
use Rattle.vr_disk.specs.declared.fault.Halt.TheVariants.{NoMemory}
use Rattle.vr_rules.proofs.Stepping.{does_no_memory, does_then}
use Rattle.vr_view.specs.Entering.{entering}
use Rattle.vr_view.proofs.States.{place_stated, ready_stated, stated_means, still_for, view_stated}
use Rattle.vr_view.proofs.stating.keep.Goals as goal

pub keep_statement-requires : goal.keep_statement-requires
keep_statement-requires g c = place_stated _ _ c.in_ok-enter_up_to.ensures.acts.ready (rw c.in_ok-enter_up_to.ensures.size (stated_means c.args.message.now c.args.replica.now c.requires.rule).sender)

pub try_view-requires : goal.try_view-requires
try_view-requires g c =
    let stays = still_for c.args.message.now c.args.replica.now c.enter_up_to.new.replica (c.in_ok-enter_up_to.ensures.acts.step.same refl) c.in_ok-enter_up_to.ensures.group (stated_means c.args.message.now c.args.replica.now c.requires.rule) in
    record {
      ready = ready_stated c.args.message.now _ _ _ c.keep_statement.ensures.kept c.in_ok-statement.ensures.same c.in_ok-statement.ensures.values c.requires.message c.in_ok-enter_up_to.ensures.view stays c.in_ok-enter_up_to.ensures.acts.ready;
      view = search (rules, view_stated);
      room = search rules;
    }

pub returns-in_err-statement : goal.returns-in_err-statement
returns-in_err-statement g c =
    let is : c.from_residual-in_err-statement.result ≡ Err NoMemory = search rules in
    record {
      ready = search rules;
      cause = search rules;
      step = rw is (does_then (entering c.args.message.now.view) _ _ _ _ _ _ _ _ _ _ _ c.in_ok-enter_up_to.ensures.acts.step (does_no_memory _ _ _ _ _ _));
    }
