-- Start_view_changes: which rule applies, and what it is.
use Rattle.std.proofs.Common.{arith, ℕ, ◌≡◌, ◌≤◌, ◌<◌, ◌∙◌, refl, sym, ap, subst, Bool, true, false, not, List, ◌++◌, Option, Result, Ok}
use Rattle.std.proofs.lemmas.Bool.{and_parts, ltb-true, eqb-false}
use Rattle.vr_disk.specs.DiskState.{Disk}
use Rattle.vr_disk.specs.declared.fault.Halt.{Halt}
use Rattle.vr_msg.specs.declared.frame.StartViewChange.{StartViewChange}
use Rattle.vr_msg.specs.declared.output.Output.{Output}
use Rattle.vr_rules.specs.Deciding.{first_of, start_view_change_table}
use Rattle.vr_rules.specs.declared.rule.Rule.{Rule}
use Rattle.vr_rules.specs.declared.rule.Rule.TheVariants.{Ignored, ChangeBefore, ChangeLater, ChangeHeard, ChangeDone}
use Rattle.vr_rules.specs.Outputs.{send_to, start_view}
use Rattle.vr_rules.specs.Replica.{Replica, is_started}
use Rattle.vr_rules.specs.Rules.{heard_of, obey_start_view_change, on_start_view_change}
use Rattle.vr_rules.specs.Steps.{◌⨾◌, change}
use Rattle.vr_rules.specs.Words.{enter, entered, speak, with_saved}
use Rattle.vr_rules.proofs.Keeping.{sound_alike}
use Rattle.vr_rules.proofs.Ruling.{by_rows}
use Rattle.vr_rules.proofs.SavesWell.{savable_alike}
use Rattle.vr_rules.specs.Does.{Does}
use Rattle.vr_rules.proofs.Stepping.{does_by, does_quiet, says_by}
use Rattle.vr_volatile.specs.Ready.{IsReady}
use Rattle.vr_view.specs.declared.changing.ChangeRule.{ChangeRule}
use Rattle.vr_view.specs.declared.changing.ChangeRule.TheVariants as rule
use Rattle.vr_view.specs.Named.{change_rule}

-- ---- what the rules stand on

not_true : (b : Bool) → not b ≡ true → b ≡ false
not_true true e = absurd cc
not_true false e = refl

later_by : (c : StartViewChange) (r : Replica) → first_of (start_view_change_table c r) ≡ ChangeLater → r.view < c.view
later_by c r =
    by_rows (λ x. x ≡ ChangeLater → r.view < c.view) (start_view_change_table c r)
    (λ t e. absurd cc, λ n0. (λ t e. absurd cc, λ n1. (λ t e. ltb-true r.view c.view t, λ n2. (λ t e. absurd cc, λ n3. (λ t e. absurd cc, λ n4 e. absurd cc)))))

heard_by : (c : StartViewChange) (r : Replica) → first_of (start_view_change_table c r) ≡ ChangeHeard → is_started r ≡ false
heard_by c r =
    by_rows (λ x. x ≡ ChangeHeard → is_started r ≡ false) (start_view_change_table c r)
    (λ t e. absurd cc, λ n0. (λ t e. absurd cc, λ n1. (λ t e. absurd cc, λ n2. (λ t e. not_true (is_started r) (and_parts (not (is_started r)) _ t).0, λ n3. (λ t e. absurd cc, λ n4 e. absurd cc)))))

-- a view that isn't started is later than the log's
pub unstarted : (r : Replica) → is_started r ≡ false → IsReady r → r.log_view < r.view
unfolding IsReady
unstarted r e h = let views = h.sound.order.views in let other = eqb-false r.view r.log_view e in omega (arith, views, other)

pub later_means : (c : StartViewChange) (r : Replica) (x : ChangeRule) → first_of (start_view_change_table c r) ≡ change_rule x → x ≡ rule.ChangeLater → r.view < c.view
later_means c r x e k = later_by c r (e ∙ ap change_rule k)

pub heard_means : (c : StartViewChange) (r : Replica) (x : ChangeRule) → first_of (start_view_change_table c r) ≡ change_rule x → x ≡ rule.ChangeHeard → IsReady r → r.log_view < r.view
heard_means c r x e k h = unstarted r (heard_by c r (e ∙ ap change_rule k)) h

pub ruleset means = (later_means, heard_means)

-- ---- what is heard of

pub ready_heard : (sender : ℕ) (r q : Replica) → q ≡ heard_of sender r → IsReady r → IsReady q
unfolding IsReady
ready_heard sender r q e h =
    rw e (record { sound = sound_alike r (heard_of sender r) refl h.sound; savable = savable_alike r (heard_of sender r) refl h.savable; idle = h.idle; fits = h.fits })

pub log_view_heard : (sender : ℕ) (r q : Replica) → q ≡ heard_of sender r → q.log_view ≡ r.log_view
log_view_heard sender r q e = ap (λ (x : Replica). x.log_view) e

-- a view that was entered
pub view_entered : (view : ℕ) (r q : Replica) → q ≡ with_saved (entered view r) → q.view ≡ view
unfolding entered
view_entered view r q e = ap (λ (x : Replica). x.view) e

pub log_view_entered : (view : ℕ) (r q : Replica) → q ≡ with_saved (entered view r) → q.log_view ≡ r.log_view
unfolding entered
log_view_entered view r q e = ap (λ (x : Replica). x.log_view) e

pub log_view_low : (r : Replica) → IsReady r → r.log_view ≤ r.view
unfolding IsReady
log_view_low r h = h.sound.order.views

pub ruleset later = (ready_heard, log_view_heard, view_entered, log_view_entered, log_view_low)

pub ruleset heard = (ready_heard, log_view_heard)

-- ---- the rules

module _ (c : StartViewChange) (r r' : Replica) (d d' : Option Disk) (o o' : List Output) where
  obeyed : (x : Rule) (result : Result (Unit {0}) Halt) → first_of (start_view_change_table c r) ≡ x → Does (obey_start_view_change c x) r r' d d' o o' result → Does (on_start_view_change c) r r' d d' o o' result
  unfolding on_start_view_change
  obeyed x result e h = does_by _ r r' d d' o o' result (subst (λ y. Does (obey_start_view_change c y) r r' d d' o o' result) (sym e) h)

  pub change_later : (x : ChangeRule) (result : Result (Unit {0}) Halt) → first_of (start_view_change_table c r) ≡ change_rule x → x ≡ rule.ChangeLater
      → Does (enter c.view ⨾ change (heard_of c.replica) ⨾ speak) r r' d d' o o' result → Does (on_start_view_change c) r r' d d' o o' result
  change_later x result e k h = obeyed ChangeLater result (e ∙ ap change_rule k) h

  pub change_heard : (x : ChangeRule) (result : Result (Unit {0}) Halt) → first_of (start_view_change_table c r) ≡ change_rule x → x ≡ rule.ChangeHeard
      → Does (change (heard_of c.replica) ⨾ speak) r r' d d' o o' result → Does (on_start_view_change c) r r' d d' o o' result
  change_heard x result e k h = obeyed ChangeHeard result (e ∙ ap change_rule k) h

module _ (c : StartViewChange) (r : Replica) (d : Option Disk) (o : List Output) (x : ChangeRule) where
  pub change_ignored : first_of (start_view_change_table c r) ≡ change_rule x → x ≡ rule.Ignored → Does (on_start_view_change c) r r d d o o (Ok tt)
  change_ignored e k = obeyed c r r d d o o Ignored (Ok tt) (e ∙ ap change_rule k) (does_quiet r d o)

  pub change_before : first_of (start_view_change_table c r) ≡ change_rule x → x ≡ rule.ChangeBefore → Does (on_start_view_change c) r r d d o o (Ok tt)
  change_before e k = obeyed c r r d d o o ChangeBefore (Ok tt) (e ∙ ap change_rule k) (does_quiet r d o)

  pub change_done : (o' : List Output) → first_of (start_view_change_table c r) ≡ change_rule x → x ≡ rule.ChangeDone → o' ≡ o ++ send_to c.replica (start_view r) r
      → Does (on_start_view_change c) r r d d o o' (Ok tt)
  change_done o' e k i = obeyed c r r d d o o' ChangeDone (Ok tt) (e ∙ ap change_rule k) (says_by _ r d o o' i)

pub ruleset changes = (change_later, change_heard, change_ignored, change_before, change_done)
