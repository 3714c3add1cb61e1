use Rattle.std.proofs.Common.{arith}
use Rattle.vr_view.proofs.Changes.{log_view_entered, log_view_heard, log_view_low, ready_heard, view_entered}
use Rattle.vr_view.proofs.changing.enter_later.Goals as goal

pub speak-requires-clause-send : goal.speak-requires-clause-send
speak-requires-clause-send g c =
    let entered = view_entered _ _ _ (c.in_ok-enter.ensures.made c.requires.last) in
    record {
      ready = ready_heard _ _ _ c.hear.ensures.heard c.in_ok-enter.ensures.acts.ready;
      view = omega (arith, entered, c.hear.ensures.view, c.requires.last);
      room = rw c.hear.ensures.saved (omega (arith, c.in_ok-enter.ensures.spent, c.requires.act.room));
    }

pub speak-requires-clause-changing : goal.speak-requires-clause-changing
speak-requires-clause-changing g c =
    let entered = view_entered _ _ _ (c.in_ok-enter.ensures.made c.requires.last) in
    let kept = log_view_entered _ _ _ (c.in_ok-enter.ensures.made c.requires.last) in
    let heard = log_view_heard c.args.message.now.replica c.enter.new.replica c.hear.new.self c.hear.ensures.heard in
    let low = log_view_low _ c.requires.act.ready in
    omega (arith, entered, kept, heard, low, c.hear.ensures.view, c.requires.later)
