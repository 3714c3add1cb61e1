-- Commits: which rule applies, and what it is.
use Rattle.std.proofs.Common.{arith, ◌≡◌, ◌≤◌, ◌∙◌, sym, ap, subst, true, false, List, ◌++◌, Option, Result, Ok}
use Rattle.std.specs.Prelude.{nat_lt}
use Rattle.vr_disk.specs.DiskState.{Disk}
use Rattle.vr_disk.specs.declared.fault.Halt.{Halt}
use Rattle.vr_msg.specs.declared.frame.Commit.{Commit}
use Rattle.vr_msg.specs.declared.output.Output.{Output}
use Rattle.vr_rules.specs.Deciding.{first_of, commit_table}
use Rattle.vr_rules.specs.declared.rule.Rule.{Rule}
use Rattle.vr_rules.specs.declared.rule.Rule.TheVariants.{Ignored, CommitBefore, CommitLater, CommitHeard}
use Rattle.vr_rules.specs.Outputs.{send_to, get_view}
use Rattle.vr_rules.specs.Replica.{Replica, head, last_view}
use Rattle.vr_rules.specs.Rules.{obey_commit, on_commit}
use Rattle.vr_rules.specs.Steps.{◌⨾◌, change}
use Rattle.vr_rules.specs.Words.{rested, learn}
use Rattle.vr_rules.specs.Does.{Does}
use Rattle.vr_rules.proofs.Stepping.{does_by, does_quiet, says_by}
use Rattle.vr_normal.specs.declared.learning.CommitRule.{CommitRule}
use Rattle.vr_normal.specs.declared.learning.CommitRule.TheVariants as rule
use Rattle.vr_normal.specs.Messages.{IsCommitting}
use Rattle.vr_normal.specs.Named.{commit_rule}
use Rattle.vr_normal.specs.Words.{asks_behind}

pub view_fits : (c : Commit) → IsCommitting c → c.view ≤ last_view
unfolding IsCommitting
view_fits c h = let view = h.view in omega arith

pub asked_behind : (c : Commit) (r : Replica) (d : Option Disk) (o o' : List Output) → nat_lt (head r) c.head ≡ true → o' ≡ o ++ send_to c.replica (get_view c.view r) r → Does (asks_behind c) r r d d o o' (Ok tt)
unfolding asks_behind
asked_behind c r d o o' e h = does_by _ r r d d o o' (Ok tt) (rw e (says_by _ r d o o' h))

pub not_behind : (c : Commit) (r : Replica) (d : Option Disk) (o : List Output) → nat_lt (head r) c.head ≡ false → Does (asks_behind c) r r d d o o (Ok tt)
unfolding asks_behind
not_behind c r d o e = does_by _ r r d d o o (Ok tt) (rw e (does_quiet r d o))

pub ruleset behind = (asked_behind, not_behind)

module _ (c : Commit) (r r' : Replica) (d d' : Option Disk) (o o' : List Output) where
  obeyed : (x : Rule) (result : Result (Unit {0}) Halt) → first_of (commit_table c r) ≡ x → Does (obey_commit c x) r r' d d' o o' result → Does (on_commit c) r r' d d' o o' result
  unfolding on_commit
  obeyed x result e h = does_by _ r r' d d' o o' result (subst (λ y. Does (obey_commit c y) r r' d d' o o' result) (sym e) h)

  pub commit_heard : (x : CommitRule) (result : Result (Unit {0}) Halt) → first_of (commit_table c r) ≡ commit_rule x → x ≡ rule.CommitHeard
      → Does (change rested ⨾ asks_behind c ⨾ learn c.commit) r r' d d' o o' result → Does (on_commit c) r r' d d' o o' result
  unfolding asks_behind
  commit_heard x result e k h = obeyed CommitHeard result (e ∙ ap commit_rule k) h

module _ (c : Commit) (r : Replica) (d : Option Disk) (o : List Output) (x : CommitRule) where
  pub commit_ignored : first_of (commit_table c r) ≡ commit_rule x → x ≡ rule.Ignored → Does (on_commit c) r r d d o o (Ok tt)
  commit_ignored e k = obeyed c r r d d o o Ignored (Ok tt) (e ∙ ap commit_rule k) (does_quiet r d o)

  pub commit_before : first_of (commit_table c r) ≡ commit_rule x → x ≡ rule.CommitBefore → Does (on_commit c) r r d d o o (Ok tt)
  commit_before e k = obeyed c r r d d o o CommitBefore (Ok tt) (e ∙ ap commit_rule k) (does_quiet r d o)

  pub commit_later : (o' : List Output) → first_of (commit_table c r) ≡ commit_rule x → x ≡ rule.CommitLater → o' ≡ o ++ send_to c.replica (get_view c.view r) r → Does (on_commit c) r r d d o o' (Ok tt)
  commit_later o' e k i = obeyed c r r d d o o' CommitLater (Ok tt) (e ∙ ap commit_rule k) (says_by _ r d o o' i)

pub ruleset rules = (commit_heard, commit_ignored, commit_before, commit_later)
