-- What was stored has its effect, and is one request more of the fold.
use Rattle.std.proofs.Common.{sym, ◌∙◌, ap, arith}
use Rattle.vr_state.specs.Effects.{stored}
use Rattle.vr_state.specs.Sessions.{Map, Asked, Fits}
use Rattle.vr_state.specs.Asks.{asked}
use Rattle.vr_state.proofs.Asking.{at_most_once, asked_fresh, sessions_after_more}
use Rattle.vr_state.proofs.SessionSteps.{applied_effect}
use Rattle.vr_state.proofs.sessions.Sessions.apply.Goals as goal

pub returns-in_err-store-clause-at_most_once : goal.returns-in_err-store-clause-at_most_once
returns-in_err-store-clause-at_most_once c = at_most_once

pub returns-clause-at_most_once : goal.returns-clause-at_most_once
returns-clause-at_most_once c = at_most_once

pub returns-clause-effect : goal.returns-clause-effect
returns-clause-effect c =
    let a : Asked = record { op = c.args.op; client = c.args.client; request = c.args.request; outcome = c.args.outcome.now; version = c.args.version } in
    let fits : Fits (a.client, stored a) = record { client = omega arith; number = omega arith; op = omega arith; outcome = c.in_ok-store.ensures.fits } in
    rw c.in_ok-store.ensures.ok (applied_effect c.args.self.now a c.len-held.ensures.sessions fits)

pub returns-clause-fold : goal.returns-clause-fold
returns-clause-fold c before is =
    let a : Asked = record { op = c.args.op; client = c.args.client; request = c.args.request; outcome = c.args.outcome.now; version = c.args.version } in
    c.in_ok-store.ensures.ok ∙ (sym (asked_fresh c.args.self.now a c.requires.fresh) ∙ (ap (λ (m : Map). asked m a) is ∙ sym (sessions_after_more before a)))
