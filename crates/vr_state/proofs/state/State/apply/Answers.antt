-- One entry more is one step more of the fold.
use Rattle.std.proofs.Common.{sym, ◌∙◌, ap}
use Rattle.vr_state.specs.declared.state.State.{State}
use Rattle.vr_state.specs.Folds.{applied}
use Rattle.vr_state.proofs.Once.{each_once, state_after_more}
use Rattle.vr_state.proofs.state.State.apply.Goals as goal

pub returns-in_err-reply-clause-each_once : goal.returns-in_err-reply-clause-each_once
returns-in_err-reply-clause-each_once c = each_once

pub returns-clause-each_once : goal.returns-clause-each_once
returns-clause-each_once c = each_once

pub returns-clause-fold : goal.returns-clause-fold
returns-clause-fold c before is =
    c.in_ok-reply.ensures.state ∙ (ap (λ (s : State). (applied s c.args.entry.now).state) is ∙ sym (state_after_more before c.args.entry.now))
