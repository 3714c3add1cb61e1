use Rattle.std.proofs.Common.{sym, ◌∙◌}
use Rattle.vr_opening.proofs.Begins.{leave_none, leave_then, opened_next, saved_opened}
use Rattle.vr_opening.proofs.begin.leave_view.Goals as goal

pub returns-then-leads-clause-opened : goal.returns-then-leads-clause-opened
returns-then-leads-clause-opened g c =
    saved_opened _ _ c.save.result
    (opened_next c.args.replica.now c.to_next_view.new.self c.requires.opened (sym c.leads.ensures ∙ c.if-leads.true) c.to_next_view.ensures.next)
    c.save.ensures.acts.ready
    c.save.ensures.made

pub returns-then-leads-clause-step : goal.returns-then-leads-clause-step
returns-then-leads-clause-step g c =
    leave_then _ _ _ _ _ _ _ _ (sym c.leads.ensures ∙ c.if-leads.true) c.to_next_view.ensures.next c.save.ensures.acts.step

pub returns-else-leads-clause-step : goal.returns-else-leads-clause-step
returns-else-leads-clause-step g c = leave_none _ _ _ (sym c.leads.ensures ∙ c.if-leads.false)
