-- Start_views and get_views: which rule applies, and what it is.
use Rattle.std.proofs.Common.{arith, ℕ, zero, suc, slice_get, ◌∷◌, ◌≡◌, ◌≤◌, ◌+◌, ◌∙◌, sym, ap, subst, List, [], ◌++◌, Option, Some, Result, Ok}
use Rattle.std.proofs.lemmas.Bool.{and_parts}
use Rattle.vr_base.specs.Bytes.{name_of}
use Rattle.vr_disk.specs.DiskState.{Disk}
use Rattle.vr_header.specs.declared.header.Header.{Header}
use Rattle.vr_header.specs.Spelling.{IsHeader}
use Rattle.vr_msg.specs.declared.frame.GetView.{GetView}
use Rattle.vr_msg.specs.declared.frame.StartView.{StartView}
use Rattle.vr_msg.specs.declared.output.Output.{Output}
use Rattle.vr_msg.specs.Logs.{IsEntryAt}
use Rattle.vr_msg.specs.Spelling.{AreHeaders}
use Rattle.vr_rules.specs.Deciding.{first_of, get_view_table, log_of, start_view_table}
use Rattle.vr_rules.specs.declared.rule.Rule.{Rule}
use Rattle.vr_rules.specs.declared.rule.Rule.TheVariants.{Ignored, SyncAsked, Taken, ViewGiven}
use Rattle.vr_rules.specs.Outputs.{get_sync, send_to, start_view}
use Rattle.vr_rules.specs.Replica.{Replica, last_view}
use Rattle.vr_rules.specs.Rules.{acknowledge_stored, obey_get_view, obey_start_view, on_get_view, on_start_view}
use Rattle.vr_rules.specs.Steps.{◌⨾◌}
use Rattle.vr_rules.specs.Words.{Log, apply, may_take, take}
use Rattle.vr_rules.proofs.Ruling.{IsFor, by_rows, group_of_primary}
use Rattle.vr_rules.specs.Given.{IsLogFor}
use Rattle.vr_rules.proofs.Trying.{from_at}
use Rattle.vr_disk.specs.declared.fault.Halt.{Halt}
use Rattle.vr_rules.specs.Does.{Does}
use Rattle.vr_rules.proofs.Stepping.{does_by, does_naming, does_quiet, says_by}
use Rattle.vr_view.specs.declared.starting.StartRule.{StartRule}
use Rattle.vr_view.specs.declared.starting.StartRule.TheVariants as started
use Rattle.vr_view.specs.declared.starting.ViewRule.{ViewRule}
use Rattle.vr_view.specs.declared.starting.ViewRule.TheVariants as asked
use Rattle.vr_view.specs.Logs.{MayTake}
use Rattle.vr_view.specs.Messages.{IsStarting}
use Rattle.vr_view.specs.Named.{start_rule, view_rule}
use Rattle.vr_actions.specs.Telling.{each_to}

-- ---- the log that a start_view tells of

told_log : (v : StartView) (r : Replica) → IsStarting v → IsFor v.version v.cluster r → AreHeaders v.body.headers → IsLogFor r (log_of v)
unfolding IsStarting
told_log v r m g w = record {
  commit = m.commit;
  count = m.count;
  each = λ i h e. (
    header_in v.body.headers i h w e,
    rw (← g.0, ← g.1) (from_at (IsEntryAt v.version v.cluster v.view) (v.body.lo + 1) v.body.headers i h m.headers e),
  );
}
  where
    header_in : (hs : List Header) (i : ℕ) (h : Header) → AreHeaders hs → slice_get hs i ≡ Some h → IsHeader h
    header_in [] i h all e = absurd cc
    header_in (g ∷ hs) zero h all e = let same : g ≡ h = cc in subst IsHeader same all.0
    header_in (g ∷ hs) (suc i) h all e = header_in hs i h all.1 e

pub view_started : (v : StartView) → IsStarting v → v.view ≤ last_view
unfolding IsStarting
view_started v m = let view = m.view in omega arith

taken_by : (v : StartView) (r : Replica) → first_of (start_view_table name_of v r) ≡ Taken → IsStarting v → AreHeaders v.body.headers → MayTake (log_of v) r
unfolding MayTake
taken_by v r k m w =
    by_rows (λ x. x ≡ Taken → MayTake (log_of v) r) (start_view_table name_of v r) (
      λ t e. absurd cc,
      λ n0. (
        λ t e. record {
          log = told_log v r m (group_of_primary v.version v.cluster v.replica v.view r n0) w;
          view = view_started v m;
          may = (and_parts (may_take name_of (log_of v) r) _ t).0;
        },
        λ n1. (λ t e. absurd cc, λ n2 e. absurd cc),
      ),
    ) k

pub may_follow : (v : StartView) (l : Log) (r : Replica) (x : StartRule) → first_of (start_view_table name_of v r) ≡ start_rule x → (x ≡ started.Taken → AreHeaders v.body.headers) → x ≡ started.Taken → l ≡ log_of v
    → IsStarting v → MayTake l r
may_follow v l r x e w k i m = rw i (taken_by v r (e ∙ ap start_rule k) m (w k))

-- ---- the rules

module _ (v : StartView) (r r' : Replica) (d d' : Option Disk) (o o' : List Output) where
  obeyed : (x : Rule) (result : Result (Unit {0}) Halt) → first_of (start_view_table name_of v r) ≡ x → Does (obey_start_view name_of v x) r r' d d' o o' result → Does (on_start_view v) r r' d d' o o' result
  unfolding on_start_view
  obeyed x result e h = does_naming _ r r' d d' o o' result (does_by _ r r' d d' o o' result (subst (λ y. Does (obey_start_view name_of v y) r r' d d' o o' result) (sym e) h))

  pub start_taken : (l : Log) (x : StartRule) (result : Result (Unit {0}) Halt) → first_of (start_view_table name_of v r) ≡ start_rule x → x ≡ started.Taken → l ≡ log_of v
      → Does (take l ⨾ each_to (acknowledge_stored name_of) l.head ⨾ apply) r r' d d' o o' result → Does (on_start_view v) r r' d d' o o' result
  unfolding each_to
  start_taken l x result e k i h = obeyed Taken result (e ∙ ap start_rule k) (rw i at h)

pub start_ignored : (v : StartView) (r : Replica) (d : Option Disk) (o : List Output) (x : StartRule) → first_of (start_view_table name_of v r) ≡ start_rule x → x ≡ started.Ignored → Does (on_start_view v) r r d d o o (Ok tt)
start_ignored v r d o x e k = obeyed v r r d d o o Ignored (Ok tt) (e ∙ ap start_rule k) (does_quiet r d o)

pub start_asked : (v : StartView) (r : Replica) (d : Option Disk) (o o' : List Output) (x : StartRule) → first_of (start_view_table name_of v r) ≡ start_rule x → x ≡ started.SyncAsked
    → o' ≡ o ++ send_to v.replica (get_sync v.view r) r → Does (on_start_view v) r r d d o o' (Ok tt)
start_asked v r d o o' x e k i = obeyed v r r d d o o' SyncAsked (Ok tt) (e ∙ ap start_rule k) (says_by (λ q. send_to v.replica (get_sync v.view q) q) r d o o' i)

pub ruleset starts = (start_taken, start_ignored, start_asked)

asked_by : (g : GetView) (r : Replica) (d : Option Disk) (o o' : List Output) (x : Rule) → first_of (get_view_table g r) ≡ x → Does (obey_get_view g x) r r d d o o' (Ok tt) → Does (on_get_view g) r r d d o o' (Ok tt)
unfolding on_get_view
asked_by g r d o o' x e h = does_by _ r r d d o o' (Ok tt) (subst (λ y. Does (obey_get_view g y) r r d d o o' (Ok tt)) (sym e) h)

module _ (g : GetView) (r : Replica) (d : Option Disk) (o : List Output) (x : ViewRule) where
  pub view_ignored : first_of (get_view_table g r) ≡ view_rule x → x ≡ asked.Ignored → Does (on_get_view g) r r d d o o (Ok tt)
  view_ignored e k = asked_by g r d o o Ignored (e ∙ ap view_rule k) (does_quiet r d o)

  pub view_given : (o' : List Output) → first_of (get_view_table g r) ≡ view_rule x → x ≡ asked.ViewGiven → o' ≡ o ++ send_to g.replica (start_view r) r → Does (on_get_view g) r r d d o o' (Ok tt)
  view_given o' e k i = asked_by g r d o o' ViewGiven (e ∙ ap view_rule k) (says_by _ r d o o' i)

pub ruleset gives = (view_ignored, view_given)
