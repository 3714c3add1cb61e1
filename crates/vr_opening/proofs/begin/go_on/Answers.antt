use Rattle.std.proofs.Common.{rules, ◌≡◌, Err}
use Rattle.vr_disk.specs.declared.fault.Halt.TheVariants.{NoMemory}
use Rattle.vr_rules.specs.Opening.{leave_view}
use Rattle.vr_rules.proofs.Stepping.{does_no_memory, does_then}
use Rattle.vr_opening.proofs.begin.go_on.Goals as goal

pub returns-in_err-say_start : goal.returns-in_err-say_start
returns-in_err-say_start g c =
    let is : c.from_residual-in_err-say_start.result ≡ Err NoMemory = search rules in
    record {
      ready = search rules;
      cause = search rules;
      step = rw is (does_then leave_view _ _ _ _ _ _ _ _ _ _ _ c.in_ok-leave_view.ensures.step (does_no_memory _ _ _ _ _ _));
    }
