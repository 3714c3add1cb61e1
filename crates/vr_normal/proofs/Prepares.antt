-- Prepares: which rule applies, and what it is.
use Rattle.std.proofs.Common.{arith, ◌≡◌, ◌≤◌, ◌<◌, ◌∙◌, ◌⊎◌, inl, inr, refl, sym, ap, subst, true, false, not, List, ◌++◌, Option, Result, Ok}
use Rattle.std.specs.Prelude.{nat_lt, nat_le}
use Rattle.std.proofs.lemmas.Bool.{ltb-false, leb-false}
use Rattle.vr_base.specs.Bytes.{name_of}
use Rattle.vr_disk.specs.DiskState.{Disk}
use Rattle.vr_disk.specs.declared.fault.Halt.{Halt}
use Rattle.vr_header.specs.Made.{IsEntryHeader}
use Rattle.vr_header.specs.Spelling.{IsHeader}
use Rattle.vr_msg.specs.declared.frame.Prepare.{Prepare}
use Rattle.vr_msg.specs.declared.output.Output.{Output}
use Rattle.vr_rules.specs.Deciding.{first_of, is_from_primary, prepare_table}
use Rattle.vr_rules.specs.declared.rule.Rule.{Rule}
use Rattle.vr_rules.specs.declared.rule.Rule.TheVariants.{Ignored, PreparedBefore, PreparedLater, Past, Beyond, Known, Next, Ahead, Other}
use Rattle.vr_rules.specs.Outputs.{send_to, get_view}
use Rattle.vr_rules.specs.Replica.{Replica, last_view, window_end}
use Rattle.vr_rules.specs.Rules.{obey_prepare, on_prepare}
use Rattle.vr_rules.specs.Words.{rested}
use Rattle.vr_rules.proofs.Ruling.{by_rows, group_of_primary, IsFor}
use Rattle.vr_rules.specs.Does.{Does}
use Rattle.vr_rules.proofs.Stepping.{does_by, does_naming, does_quiet, says_by, change_by}
use Rattle.vr_volatile.specs.Ready.{MayStore}
use Rattle.vr_actions.specs.Waits.{passes}
use Rattle.vr_normal.specs.declared.storing.PrepareRule.{PrepareRule}
use Rattle.vr_normal.specs.declared.storing.PrepareRule.TheVariants as rule
use Rattle.vr_normal.specs.Messages.{IsPreparing}
use Rattle.vr_normal.specs.Named.{prepare_rule}

pub view_fits : (p : Prepare) → IsPreparing p → p.view ≤ last_view
unfolding IsPreparing
view_fits p h = let view = h.view in omega arith

-- ---- what is stored may be

-- it is of the log's view, and of the window
record Fits (p : Prepare) (r : Replica) : Type 0 where
  group : IsFor p.version p.entry.header.cluster r
  view : p.view ≤ r.log_view
  above : r.checkpoint < p.entry.header.op
  window : p.entry.header.op ≤ window_end r

fits : (p : Prepare) (r : Replica) → not (is_from_primary p.version p.entry.header.cluster p.replica p.view r) ≡ false → nat_lt r.log_view p.view ≡ false → nat_le p.entry.header.op r.checkpoint ≡ false
    → nat_lt (window_end r) p.entry.header.op ≡ false → Fits p r
fits p r a b c d = record {
  group = group_of_primary p.version p.entry.header.cluster p.replica p.view r a;
  view = ltb-false r.log_view p.view b;
  above = leb-false p.entry.header.op r.checkpoint c;
  window = ltb-false (window_end r) p.entry.header.op d;
}

abbrev Stored : Rule → Type 0
Stored x = (x ≡ Known) ⊎ (x ≡ Next)

fits_by : (p : Prepare) (r : Replica) → Stored (first_of (prepare_table name_of p r)) → Fits p r
fits_by p r =
    by_rows (λ x. Stored x → Fits p r) (prepare_table name_of p r) (
      λ t e. elim e [ inl k ↦ absurd cc | inr k ↦ absurd cc ],
      λ n0. (
        λ t e. elim e [ inl k ↦ absurd cc | inr k ↦ absurd cc ],
        λ n1. (
          λ t e. elim e [ inl k ↦ absurd cc | inr k ↦ absurd cc ],
          λ n2. (
            λ t e. elim e [ inl k ↦ absurd cc | inr k ↦ absurd cc ],
            λ n3. (
              λ t e. elim e [ inl k ↦ absurd cc | inr k ↦ absurd cc ],
              λ n4. (
                λ t e. fits p r n0 n2 n3 n4,
                λ n5. (
                  λ t e. fits p r n0 n2 n3 n4,
                  λ n6. (
                    λ t e. elim e [ inl k ↦ absurd cc | inr k ↦ absurd cc ],
                    λ n7. (λ t e. elim e [ inl k ↦ absurd cc | inr k ↦ absurd cc ], λ n8 e. elim e [ inl k ↦ absurd cc | inr k ↦ absurd cc ]),
                  ),
                ),
              ),
            ),
          ),
        ),
      ),
    )

fits_may : (p : Prepare) (r : Replica) → IsPreparing p → IsHeader p.entry.header → IsEntryHeader p.entry.header → Fits p r → MayStore p.entry r
unfolding IsPreparing MayStore
fits_may p r m h n f =
    let made = m.made in
    let view = f.view in
    record {
      above = f.above;
      window = f.window;
      header = h;
      is_entry = record { entry = n; of_version = rw (← f.group.0) m.of_version; of_group = f.group.1; at_op = refl; made = omega arith };
    }

pub may_known : (p : Prepare) (r : Replica) (x : PrepareRule) → first_of (prepare_table name_of p r) ≡ prepare_rule x → x ≡ rule.Known → IsPreparing p → IsHeader p.entry.header → IsEntryHeader p.entry.header → MayStore p.entry r
may_known p r x e k m h n = fits_may p r m h n (fits_by p r (inl (e ∙ ap prepare_rule k)))

pub may_next : (p : Prepare) (r : Replica) (x : PrepareRule) → first_of (prepare_table name_of p r) ≡ prepare_rule x → x ≡ rule.Next → IsPreparing p → IsHeader p.entry.header → IsEntryHeader p.entry.header → MayStore p.entry r
may_next p r x e k m h n = fits_may p r m h n (fits_by p r (inr (e ∙ ap prepare_rule k)))

-- ---- the rules

module _ (p : Prepare) (r r' : Replica) (d d' : Option Disk) (o o' : List Output) where
  obeyed : (x : Rule) (result : Result (Unit {0}) Halt) → first_of (prepare_table name_of p r) ≡ x → Does (obey_prepare name_of p x) r r' d d' o o' result → Does (on_prepare p) r r' d d' o o' result
  unfolding on_prepare
  obeyed x result e h = does_naming _ r r' d d' o o' result (does_by _ r r' d d' o o' result (subst (λ y. Does (obey_prepare name_of p y) r r' d d' o o' result) (sym e) h))

  module _ (x : PrepareRule) (result : Result (Unit {0}) Halt) (e : first_of (prepare_table name_of p r) ≡ prepare_rule x) where
    pub prepare_past : x ≡ rule.Past → Does (obey_prepare name_of p Past) r r' d d' o o' result → Does (on_prepare p) r r' d d' o o' result
    prepare_past k h = obeyed Past result (e ∙ ap prepare_rule k) h

    pub prepare_known : x ≡ rule.Known → Does (obey_prepare name_of p Known) r r' d d' o o' result → Does (on_prepare p) r r' d d' o o' result
    prepare_known k h = obeyed Known result (e ∙ ap prepare_rule k) h

    pub prepare_next : x ≡ rule.Next → Does (obey_prepare name_of p Next) r r' d d' o o' result → Does (on_prepare p) r r' d d' o o' result
    prepare_next k h = obeyed Next result (e ∙ ap prepare_rule k) h

    pub prepare_ahead : x ≡ rule.Ahead → Does (obey_prepare name_of p Ahead) r r' d d' o o' result → Does (on_prepare p) r r' d d' o o' result
    prepare_ahead k h = obeyed Ahead result (e ∙ ap prepare_rule k) h

module _ (p : Prepare) (r : Replica) (d : Option Disk) (o : List Output) (x : PrepareRule) (e : first_of (prepare_table name_of p r) ≡ prepare_rule x) where
  pub prepare_ignored : x ≡ rule.Ignored → Does (on_prepare p) r r d d o o (Ok tt)
  prepare_ignored k = obeyed p r r d d o o Ignored (Ok tt) (e ∙ ap prepare_rule k) (does_quiet r d o)

  pub prepare_before : x ≡ rule.PreparedBefore → Does (on_prepare p) r r d d o o (Ok tt)
  prepare_before k = obeyed p r r d d o o PreparedBefore (Ok tt) (e ∙ ap prepare_rule k) (does_quiet r d o)

  pub prepare_later : (o' : List Output) → x ≡ rule.PreparedLater → o' ≡ o ++ send_to p.replica (get_view p.view r) r → Does (on_prepare p) r r d d o o' (Ok tt)
  prepare_later o' k i = obeyed p r r d d o o' PreparedLater (Ok tt) (e ∙ ap prepare_rule k) (says_by _ r d o o' i)

  pub prepare_beyond : (q : Replica) → x ≡ rule.Beyond → q ≡ rested r → Does (on_prepare p) r q d d o o (Ok tt)
  prepare_beyond q k i = obeyed p r q d d o o Beyond (Ok tt) (e ∙ ap prepare_rule k) (change_by rested r q d o i refl)

  pub prepare_other : (q : Replica) → x ≡ rule.Other → q ≡ rested r → Does (on_prepare p) r q d d o o (Ok tt)
  prepare_other q k i = obeyed p r q d d o o Other (Ok tt) (e ∙ ap prepare_rule k) (change_by rested r q d o i refl)

-- a prepare that its rule doesn't leave be
pub not_passed : (z : Rule) (x y : PrepareRule) → z ≡ prepare_rule x → x ≡ y → passes (prepare_rule y) ≡ false → passes z ≡ true → ⊥
not_passed z x y e k f t = let both : true ≡ false = sym t ∙ (ap passes e ∙ (ap (λ w. passes (prepare_rule w)) k ∙ f)) in absurd cc
