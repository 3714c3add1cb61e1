use Rattle.std.proofs.Common.{rules, ◌≡◌, Err}
use Rattle.vr_disk.specs.declared.fault.Halt.TheVariants.{NoMemory}
use Rattle.vr_rules.specs.Rules.{make}
use Rattle.vr_rules.specs.Words.{write}
use Rattle.vr_rules.proofs.Stepping.{does_no_memory, does_then}
use Rattle.vr_normal.proofs.making.make.Goals as goal

pub returns-in_err-send_prepare : goal.returns-in_err-send_prepare
unfolding make
returns-in_err-send_prepare g c =
    let is : c.from_residual-in_err-send_prepare.result ≡ Err NoMemory = search rules in
    record {
      ready = search rules;
      cause = search rules;
      step = rw is (does_then (write c.args.entry.now) _ _ _ _ _ _ _ _ _ _ _ c.in_ok-write.ensures.acts.step (does_no_memory _ _ _ _ _ _));
    }
