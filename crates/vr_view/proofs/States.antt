-- Do_view_changes: which rule applies, and what it is.
use Rattle.std.proofs.Common.{arith, ℕ, ◌≡◌, ◌≤◌, ◌<◌, ◌∙◌, refl, sym, ap, subst, Bool, true, false, not, List, ◌++◌, Option, Result, Ok, length}
use Rattle.std.specs.Prelude.{◌&&◌, ◌||◌, nat_lt}
use Rattle.std.proofs.lemmas.Bool.{and_parts, ltb-true, ltb-false, lt-ltb, le-ltb}
use Rattle.vr_disk.specs.DiskState.{Disk}
use Rattle.vr_disk.specs.declared.fault.Halt.{Halt}
use Rattle.vr_msg.specs.declared.frame.DoViewChange.{DoViewChange}
use Rattle.vr_msg.specs.declared.output.Output.{Output}
use Rattle.vr_msg.specs.declared.statement.Statement.{Statement}
use Rattle.vr_msg.specs.Spelling.{AreHeaders, known}
use Rattle.vr_rules.specs.Deciding.{first_of, do_view_change_table, is_from}
use Rattle.vr_rules.specs.declared.rule.Rule.{Rule}
use Rattle.vr_rules.specs.declared.rule.Rule.TheVariants.{Ignored, StatedBefore, StatedLate, Stated}
use Rattle.vr_rules.specs.Outputs.{send_to, start_view}
use Rattle.vr_rules.specs.Replica.{Replica, last_view, version}
use Rattle.vr_rules.specs.Rules.{obey_do_view_change, on_do_view_change, with_statement}
use Rattle.vr_rules.specs.Sound.{IsStated}
use Rattle.vr_rules.specs.Steps.{◌⨾◌, change}
use Rattle.vr_rules.specs.Words.{enter, entered, try, with_saved}
use Rattle.vr_rules.proofs.Ruling.{IsFor, by_rows, group_of, kept_statement}
use Rattle.vr_rules.proofs.SavesWell.{savable_alike}
use Rattle.vr_rules.specs.Does.{Does}
use Rattle.vr_rules.proofs.Stepping.{does_by, does_quiet, says_by}
use Rattle.vr_volatile.specs.Ready.{IsReady}
use Rattle.vr_view.specs.declared.stating.StateRule.{StateRule}
use Rattle.vr_view.specs.declared.stating.StateRule.TheVariants as rule
use Rattle.vr_view.specs.Messages.{IsStating}
use Rattle.vr_view.specs.Named.{state_rule}
use Rattle.vr_view.specs.Entering.{entering}

-- ---- a later view is entered

module _ (view : ℕ) (r q : Replica) (d d' : Option Disk) (o o' : List Output) where
  pub enter_then : (result : Result (Unit {0}) Halt) → r.view < view → Does (enter view) r q d d' o o' result → Does (entering view) r q d d' o o' result
  unfolding entering
  enter_then result l h = does_by _ r q d d' o o' result (rw (lt-ltb r.view view l) h)

pub enter_none : (view : ℕ) (r : Replica) (d : Option Disk) (o : List Output) → view ≤ r.view → Does (entering view) r r d d o o (Ok tt)
unfolding entering
enter_none view r d o l = does_by _ r r d d o o (Ok tt) (rw (le-ltb r.view view l) (does_quiet r d o))

pub view_entered : (view : ℕ) (r q : Replica) → q ≡ with_saved (entered view r) → q.view ≡ view
unfolding entered
view_entered view r q e = ap (λ (x : Replica). x.view) e

pub cluster_entered : (view : ℕ) (r q : Replica) → q ≡ with_saved (entered view r) → q.cluster ≡ r.cluster
unfolding entered
cluster_entered view r q e = ap (λ (x : Replica). x.cluster) e

pub size_entered : (view : ℕ) (r q : Replica) → q ≡ with_saved (entered view r) → q.n ≡ r.n
unfolding entered
size_entered view r q e = ap (λ (x : Replica). x.n) e

pub ruleset enters = (enter_then, enter_none, view_entered, cluster_entered, size_entered)

-- ---- a statement is kept

-- what is stated for the view that the replica is in
pub record ToKeep (d : DoViewChange) (r : Replica) : Type 0 where
  pub later : r.view ≤ d.view
  pub group : IsFor d.version d.cluster r
  pub sender : d.replica < r.n

not_false : (b : Bool) → not b ≡ false → b ≡ true
not_false true e = refl
not_false false e = absurd cc

or_false : (a b : Bool) → (a || b) ≡ false → a ≡ false
or_false true b e = absurd cc
or_false false b e = refl

from_is : (v cluster sender : ℕ) (r : Replica) → is_from v cluster sender r ≡ true → sender < r.n
from_is v cluster sender r e = ltb-true sender r.n (and_parts (nat_lt sender r.n) _ (and_parts _ (nat_lt sender r.n && _) e).1).0

pub stated_means : (d : DoViewChange) (r : Replica) → first_of (do_view_change_table d r) ≡ Stated → ToKeep d r
stated_means d r =
    by_rows (λ x. x ≡ Stated → ToKeep d r) (do_view_change_table d r) (
      λ t e. absurd cc,
      λ n0. (
        λ t e. absurd cc,
        λ n1. (
          λ t e. absurd cc,
          λ n2. (
            λ t e.
                let from = not_false (is_from d.version d.cluster d.replica r) n0 in
                record { later = ltb-false d.view r.view (or_false (nat_lt d.view r.view) _ n1); group = group_of d.version d.cluster d.replica r from; sender = from_is d.version d.cluster d.replica r from },
            λ n3 e. absurd cc,
          ),
        ),
      ),
    )

pub ready_stated : (d : DoViewChange) (r q : Replica) (s : Statement) → q ≡ with_statement d.replica s r → s ≡ d.statement → AreHeaders (known d.statement.body.parts) → IsStating d → r.view ≡ d.view → (version r ≡ d.version) × (r.cluster ≡ d.cluster) → IsReady r → IsReady q
unfolding IsReady IsStating
ready_stated d r q s e i w m v g h =
    let older = m.log_view in
    let is : IsStated (version r) r.cluster r.view d.statement = rw (v, g.0, g.1) (record { statement = m.statement; values = w; view = omega arith }) in
    rw (e, i) (record {
      sound = (kept_statement d.replica d.statement r h.sound is).sound;
      savable = savable_alike r (with_statement d.replica d.statement r) refl h.savable;
      idle = h.idle;
      fits = h.fits;
    })

-- a later view leaves the version and the group as they are
pub still_for : (d : DoViewChange) (r q : Replica) → version q ≡ version r → q.cluster ≡ r.cluster → ToKeep d r → (version q ≡ d.version) × (q.cluster ≡ d.cluster)
still_for d r q v e t = let g = t.group in (v ∙ sym g.0, e ∙ sym g.1)

-- its view may be entered
pub view_stated : (d : DoViewChange) → IsStating d → d.view ≤ last_view
unfolding IsStating
view_stated d m = let view = m.view in omega arith

-- there is a place for it
pub place_stated : (sender : ℕ) (r : Replica) → IsReady r → sender < r.n → sender < length r.statements
unfolding IsReady
place_stated sender r h l = let n = h.sound.lists.statements in omega (arith, n)

pub ruleset states = (stated_means, ready_stated, view_stated, place_stated)

-- ---- the rules

module _ (c : DoViewChange) (r r' : Replica) (d d' : Option Disk) (o o' : List Output) where
  obeyed : (x : Rule) (result : Result (Unit {0}) Halt) → first_of (do_view_change_table c r) ≡ x → Does (obey_do_view_change c x) r r' d d' o o' result → Does (on_do_view_change c) r r' d d' o o' result
  unfolding on_do_view_change
  obeyed x result e h = does_by _ r r' d d' o o' result (subst (λ y. Does (obey_do_view_change c y) r r' d d' o o' result) (sym e) h)

  pub state_stated : (x : StateRule) (result : Result (Unit {0}) Halt) → first_of (do_view_change_table c r) ≡ state_rule x → x ≡ rule.Stated
      → Does (entering c.view ⨾ change (with_statement c.replica c.statement) ⨾ try) r r' d d' o o' result → Does (on_do_view_change c) r r' d d' o o' result
  unfolding entering
  state_stated x result e k h = obeyed Stated result (e ∙ ap state_rule k) h

pub state_is : (c : DoViewChange) (r : Replica) (x : StateRule) → first_of (do_view_change_table c r) ≡ state_rule x → x ≡ rule.Stated → first_of (do_view_change_table c r) ≡ Stated
state_is c r x e k = e ∙ ap state_rule k

module _ (c : DoViewChange) (r : Replica) (d : Option Disk) (o : List Output) (x : StateRule) where
  pub state_ignored : first_of (do_view_change_table c r) ≡ state_rule x → x ≡ rule.Ignored → Does (on_do_view_change c) r r d d o o (Ok tt)
  state_ignored e k = obeyed c r r d d o o Ignored (Ok tt) (e ∙ ap state_rule k) (does_quiet r d o)

  pub state_before : first_of (do_view_change_table c r) ≡ state_rule x → x ≡ rule.StatedBefore → Does (on_do_view_change c) r r d d o o (Ok tt)
  state_before e k = obeyed c r r d d o o StatedBefore (Ok tt) (e ∙ ap state_rule k) (does_quiet r d o)

  pub state_late : (o' : List Output) → first_of (do_view_change_table c r) ≡ state_rule x → x ≡ rule.StatedLate → o' ≡ o ++ send_to c.replica (start_view r) r → Does (on_do_view_change c) r r d d o o' (Ok tt)
  state_late o' e k i = obeyed c r r d d o o' StatedLate (Ok tt) (e ∙ ap state_rule k) (says_by _ r d o o' i)

pub ruleset rules = (state_stated, state_is, state_ignored, state_before, state_late)
