-- Prepare_oks: which rule applies, and what it is.
use Rattle.std.proofs.Common.{arith, ◌≡◌, ◌≤◌, ◌<◌, ◌-◌, ◌∙◌, refl, sym, ap, subst, true, List, length, Option, Result, Ok}
use Rattle.std.specs.Prelude.{◌==◌, nat_lt, nat_le}
use Rattle.std.proofs.lemmas.Bool.{and_parts, ltb-true, leb-true}
use Rattle.std.proofs.lemmas.List.{length-set}
use Rattle.vr_base.specs.Bytes.{name_of}
use Rattle.vr_disk.specs.DiskState.{Disk}
use Rattle.vr_disk.specs.declared.fault.Halt.{Halt}
use Rattle.vr_msg.specs.declared.frame.PrepareOk.{PrepareOk}
use Rattle.vr_msg.specs.declared.output.Output.{Output}
use Rattle.vr_rules.specs.Deciding.{first_of, prepare_ok_table}
use Rattle.vr_rules.specs.declared.rule.Rule.{Rule}
use Rattle.vr_rules.specs.declared.rule.Rule.TheVariants.{Ignored, Counted}
use Rattle.vr_rules.specs.Replica.{Replica, head, leads}
use Rattle.vr_rules.specs.Rules.{acknowledged, obey_prepare_ok, on_prepare_ok}
use Rattle.vr_rules.specs.Steps.{◌⨾◌, change}
use Rattle.vr_rules.specs.Words.{advance}
use Rattle.vr_rules.proofs.Keeping.{sound_ackers}
use Rattle.vr_rules.proofs.Ruling.{by_rows}
use Rattle.vr_rules.proofs.SavesWell.{savable_alike}
use Rattle.vr_rules.specs.Does.{Does}
use Rattle.vr_rules.proofs.Stepping.{does_by, does_naming, does_quiet}
use Rattle.vr_volatile.specs.Ready.{IsReady}
use Rattle.vr_normal.specs.declared.counting.CountRule.{CountRule}
use Rattle.vr_normal.specs.declared.counting.CountRule.TheVariants as rule
use Rattle.vr_normal.specs.Named.{count_rule}
use Rattle.vr_normal.specs.Words.{is_open}

-- ---- its op is open

record Open (a : PrepareOk) (r : Replica) : Type 0 where
  above : r.commit < a.op
  known : a.op ≤ head r

open_parts : (a : PrepareOk) (r : Replica) → is_open a r ≡ true → Open a r
open_parts a r t =
    let view = (and_parts (leads r) _ t).1 in
    let above = (and_parts (a.view == r.view) _ view).1 in
    let p = and_parts (nat_lt r.commit a.op) _ above in
    record { above = ltb-true r.commit a.op p.0; known = leb-true a.op (head r) (and_parts (nat_le a.op (head r)) _ p.1).0 }

open_by : (a : PrepareOk) (r : Replica) → first_of (prepare_ok_table name_of a r) ≡ Counted → Open a r
open_by a r = by_rows (λ x. x ≡ Counted → Open a r) (prepare_ok_table name_of a r) (λ t e. absurd cc, λ n0. (λ t e. open_parts a r t, λ n1 e. absurd cc))

-- so it has a place
pub counted_from : (a : PrepareOk) (r : Replica) → IsReady r → first_of (prepare_ok_table name_of a r) ≡ Counted → r.first ≤ a.op
unfolding IsReady
counted_from a r h e =
    let above = (open_by a r e).above in
    let reach = h.sound.lists.reach in
    let low = h.sound.order.applied in
    let commit = h.sound.order.commit in
    omega arith

pub counted_within : (a : PrepareOk) (r : Replica) → IsReady r → first_of (prepare_ok_table name_of a r) ≡ Counted → a.op - r.first < length r.ackers
unfolding IsReady
counted_within a r h e =
    let known = (open_by a r e).known in
    let window = h.sound.order.window in
    let reach = h.sound.lists.reach in
    let parts = h.sound.lists.parts in
    let ackers = h.sound.lists.ackers in
    omega arith

pub ready_counted : (a : PrepareOk) (r q : Replica) → q ≡ acknowledged a r → IsReady r → IsReady q
unfolding IsReady
ready_counted a r q e h =
    rw e (record {
      sound = sound_ackers r _ (length-set r.ackers (a.op - r.first) _) h.sound;
      savable = savable_alike r (acknowledged a r) refl h.savable;
      idle = h.idle;
      fits = h.fits;
    })

pub saved_counted : (a : PrepareOk) (r q : Replica) → q ≡ acknowledged a r → q.saved ≡ r.saved
saved_counted a r q e = ap (λ (x : Replica). x.saved) e

-- ---- the rules

module _ (a : PrepareOk) (r r' : Replica) (d d' : Option Disk) (o o' : List Output) where
  obeyed : (x : Rule) (result : Result (Unit {0}) Halt) → first_of (prepare_ok_table name_of a r) ≡ x → Does (obey_prepare_ok a x) r r' d d' o o' result → Does (on_prepare_ok a) r r' d d' o o' result
  unfolding on_prepare_ok
  obeyed x result e h = does_naming _ r r' d d' o o' result (does_by _ r r' d d' o o' result (subst (λ y. Does (obey_prepare_ok a y) r r' d d' o o' result) (sym e) h))

  pub ack_counted : (x : CountRule) (result : Result (Unit {0}) Halt) → first_of (prepare_ok_table name_of a r) ≡ count_rule x → x ≡ rule.Counted
      → Does (change (acknowledged a) ⨾ advance) r r' d d' o o' result → Does (on_prepare_ok a) r r' d d' o o' result
  ack_counted x result e k h = obeyed Counted result (e ∙ ap count_rule k) h

pub ack_ignored : (a : PrepareOk) (r : Replica) (d : Option Disk) (o : List Output) (x : CountRule) → first_of (prepare_ok_table name_of a r) ≡ count_rule x → x ≡ rule.Ignored → Does (on_prepare_ok a) r r d d o o (Ok tt)
ack_ignored a r d o x e k = obeyed a r r d d o o Ignored (Ok tt) (e ∙ ap count_rule k) (does_quiet r d o)

pub counted_means : (a : PrepareOk) (r : Replica) (x : CountRule) → first_of (prepare_ok_table name_of a r) ≡ count_rule x → x ≡ rule.Counted → first_of (prepare_ok_table name_of a r) ≡ Counted
counted_means a r x e k = e ∙ ap count_rule k

pub ruleset rules = (ack_counted, ack_ignored, counted_means)
