-- The operation has its meaning, and is one step more of the fold.
use Rattle.std.proofs.Common.{sym, ◌∙◌, ap}
use Rattle.vr_state.specs.Kv.{Map, applied}
use Rattle.vr_state.proofs.Meanings.{applied_means, machine_after_more}
use Rattle.vr_state.proofs.kv.Kv.apply.Goals as goal

pub returns-clause-meaning : goal.returns-clause-meaning
returns-clause-meaning c =
    rw (c.in_ok-outcome.ensures.outcome, c.in_ok-outcome.ensures.machine) (applied_means c.args.self.now c.args.operation.now c.len-keys.ensures.state)

pub returns-clause-fold : goal.returns-clause-fold
returns-clause-fold c before is =
    c.in_ok-outcome.ensures.machine ∙ (ap (λ (m : Map). (applied m c.args.operation.now).machine) is ∙ sym (machine_after_more before c.args.operation.now))
