use Rattle.std.proofs.Common.{ap, arith, ◌≡◌}
use Rattle.std.specs.Prelude.{◌==◌}
use Rattle.std.proofs.lemmas.Bool.{and_parts, eqb-true}
use Rattle.vr_rules.specs.Replica.{Replica, version}
use Rattle.vr_volatile.proofs.Memory.{may_member, may_fits, may_low}
use Rattle.vr_volatile.proofs.Applies.{reply_fits, reply_value}
use Rattle.vr_volatile.proofs.replica.Replica.apply_state.Goals as goal

pub tell_applied-requires-clause-member : goal.tell_applied-requires-clause-member
tell_applied-requires-clause-member c = may_member _ _ (ap (λ (x : Replica). x.n) c.self.view_is) c.requires.may

pub tell_applied-requires-clause-kind : goal.tell_applied-requires-clause-kind
tell_applied-requires-clause-kind c = λ n. reply_fits _ _ _ _ (ap (λ (x : Replica). x.state) c.self.view_is) c.requires.may n c.in_ok-body.ensures.reply

pub tell_applied-requires-clause-fits : goal.tell_applied-requires-clause-fits
tell_applied-requires-clause-fits c = rw (ap (λ (x : Replica). version x) c.self.view_is) (reply_value _ _ _ _ (ap (λ (x : Replica). x.state) c.self.view_is) c.requires.may c.in_ok-body.ensures.reply)

pub overflow_add-self : goal.overflow_add-self
overflow_add-self c = let k = may_fits _ _ (ap (λ (x : Replica). x.applied) c.self.view_is) c.requires.may in omega arith

pub tell_applied-requires-clause-view : goal.tell_applied-requires-clause-view
tell_applied-requires-clause-view c = λ l.
    let same : c.self.inside.view ≡ c.self.inside.log_view = eqb-true c.self.inside.view c.self.inside.log_view (and_parts (c.self.inside.view == c.self.inside.log_view) _ l).0 in
    let low = may_low _ c.requires.may in
    let at = ap (λ (x : Replica). x.log_view) c.self.view_is in
    omega (arith, same, low, at)
