use Rattle.std.proofs.Common.{refl, rules, ◌≡◌, Err}
use Rattle.vr_rules.specs.Words.{resend, write}
use Rattle.vr_rules.proofs.Stepping.{does_stopped, does_then}
use Rattle.vr_repair.proofs.Repaired.{still_taken}
use Rattle.vr_repair.proofs.entries.take_entry.Goals as goal

pub resend-requires-clause-taken : goal.resend-requires-clause-taken
resend-requires-clause-taken g c = still_taken _ _ c.write.new.replica c.requires.send.ready c.requires.may (c.in_ok-write.ensures.acts.step.same refl)

pub returns-in_err-write : goal.returns-in_err-write
returns-in_err-write g c =
    let is : c.from_residual.result ≡ Err c.in_err-write.field-0.0 = search rules in
    record { ready = search rules; cause = search rules; step = rw is (does_stopped (write c.args.entry.now) _ _ _ _ _ _ _ _ _ _ c.in_err-write.ensures.acts.step) }

pub returns-in_err-resend : goal.returns-in_err-resend
returns-in_err-resend g c =
    let is : c.from_residual-in_err-resend.result ≡ Err c.in_err-resend.field-0.0 = search rules in
    record {
      ready = search rules;
      cause = search rules;
      step =
          rw is
          (does_then (write c.args.entry.now) _ _ _ _ _ _ _ _ _ _ _ c.in_ok-write.ensures.acts.step
          (does_stopped (resend c.args.entry.now) _ _ _ _ _ _ _ _ _ _ c.in_err-resend.ensures.step));
    }

pub returns : goal.returns
returns g c =
    record {
      ready = c.apply.ensures.ready;
      cause = search rules;
      step =
          does_then (write c.args.entry.now) _ _ _ _ _ _ _ _ _ _ _ c.in_ok-write.ensures.acts.step
          (does_then (resend c.args.entry.now) _ _ _ _ _ _ _ _ _ _ _ c.in_ok-resend.ensures.step c.apply.ensures.step);
    }
