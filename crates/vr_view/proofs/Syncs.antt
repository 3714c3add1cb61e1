-- Get_syncs: which rule applies, and what it is.
use Rattle.std.proofs.Common.{◌≡◌, ◌∙◌, sym, ap, subst, List, ◌++◌, Option, Ok}
use Rattle.vr_disk.specs.DiskState.{Disk}
use Rattle.vr_msg.specs.declared.frame.GetSync.{GetSync}
use Rattle.vr_msg.specs.declared.output.Output.{Output}
use Rattle.vr_rules.specs.Deciding.{first_of, get_sync_table}
use Rattle.vr_rules.specs.declared.rule.Rule.{Rule}
use Rattle.vr_rules.specs.declared.rule.Rule.TheVariants.{Ignored, SyncGiven}
use Rattle.vr_rules.specs.Outputs.{send_to, sync_view}
use Rattle.vr_rules.specs.Replica.{Replica}
use Rattle.vr_rules.specs.Rules.{obey_get_sync, on_get_sync}
use Rattle.vr_rules.specs.Does.{Does}
use Rattle.vr_rules.proofs.Stepping.{does_by, does_quiet, says_by}
use Rattle.vr_view.specs.declared.giving.SyncRule.{SyncRule}
use Rattle.vr_view.specs.declared.giving.SyncRule.TheVariants as asked
use Rattle.vr_view.specs.NamedSyncs.{sync_rule}

asked_by : (g : GetSync) (r : Replica) (d : Option Disk) (o o' : List Output) (x : Rule) → first_of (get_sync_table g r) ≡ x → Does (obey_get_sync g x) r r d d o o' (Ok tt) → Does (on_get_sync g) r r d d o o' (Ok tt)
unfolding on_get_sync
asked_by g r d o o' x e h = does_by _ r r d d o o' (Ok tt) (subst (λ y. Does (obey_get_sync g y) r r d d o o' (Ok tt)) (sym e) h)

module _ (g : GetSync) (r : Replica) (d : Option Disk) (o : List Output) (x : SyncRule) where
  pub sync_ignored : first_of (get_sync_table g r) ≡ sync_rule x → x ≡ asked.Ignored → Does (on_get_sync g) r r d d o o (Ok tt)
  sync_ignored e k = asked_by g r d o o Ignored (e ∙ ap sync_rule k) (does_quiet r d o)

  pub sync_given : (o' : List Output) → first_of (get_sync_table g r) ≡ sync_rule x → x ≡ asked.SyncGiven → o' ≡ o ++ send_to g.replica (sync_view r) r → Does (on_get_sync g) r r d d o o' (Ok tt)
  sync_given o' e k i = asked_by g r d o o' SyncGiven (e ∙ ap sync_rule k) (says_by (λ q. send_to g.replica (sync_view q) q) r d o o' i)

pub ruleset gives = (sync_ignored, sync_given)
