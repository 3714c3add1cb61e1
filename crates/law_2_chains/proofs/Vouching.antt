-- What is said of a stored entry, and small changes of a replica.
use Rattle.std.proofs.Common.{ℕ, ◌%◌, ◌≡◌, ◌∙◌, inl, inr, arith, refl, sym, ap, List, []}
use Rattle.std.proofs.lemmas.Bool.{cases_lt}
use Rattle.vr_header.specs.declared.header.Header.{Header}
use Rattle.vr_header.specs.declared.part.Part.TheVariants.{Here}
use Rattle.vr_header.specs.Names.{name_by}
use Rattle.vr_header.specs.Parts.{header_of}
use Rattle.vr_rules.specs.Replica.{Replica, part_at, head}
use Rattle.vr_rules.specs.Outputs.{send_to, to_primary, prepare_ok, get_view}
use Rattle.vr_rules.specs.Steps.{Setting, Word, ◌⨾◌, change, after_all}
use Rattle.vr_rules.specs.Words.{rested}
use Rattle.vr_rules.specs.Rules.{acknowledge, ask_view}
use Rattle.vr_rules.proofs.Wording.{kept_rested}
use Rattle.law_1_machine.specs.Group.{Group}
use Rattle.law_1_machine.specs.Parts.{header, denied}
use Rattle.law_2_chains.specs.Local.{Local}
use Rattle.law_2_chains.specs.Reflecting.{told_of}
use Rattle.law_2_chains.specs.Chains.{Setup, MayVouch, Mid, Goes}
use Rattle.law_2_chains.proofs.Scripts.{goes_then, goes_change}
use Rattle.law_2_chains.proofs.Moving.{mid_stays, goes_says}
use Rattle.law_2_chains.proofs.Writing.{told_header}
use Rattle.law_2_chains.proofs.Applying.{goes_says_then}

module _ (u : Setup) (start : Group Header) (i : ℕ) where
  -- an entry that is stored may be vouched for, in a view that has begun
  pub may_vouch : (r : Replica) (l : Local) (s : Group Header) (x : Mid u start i r l s) (k : ℕ) (h : Header) → r.view ≡ r.log_view → part_at r k ≡ Here h
      → MayVouch x.memory (s.members i).slots r.view k h
  may_vouch r l s x k h begun is =
      let ckpt = x.reflects.checkpoint in
      record {
        in_view = x.reflects.view;
        of_log = x.reflects.log_view ∙ sym begun;
        known = ap header (x.reflects.parts k) ∙ (told_header (part_at r k) ∙ ap header_of is);
        held = elim (cases_lt r.checkpoint k) [
          | inl above ↦ inr (x.under.disk.slots (k % 64) ∙ x.stored.0 k h above is, ap denied (x.reflects.parts k ∙ ap told_of is))
          | inr below ↦ inl (omega arith)
        ];
      }

  -- an idle replica rests
  pub mid_rested : (r : Replica) (l : Local) (s : Group Header) → Mid u start i r l s → Mid u start i (rested r) l s
  unfolding head part_at
  mid_rested r l s x =
      let f = x.reflects in
      mid_stays u start i r (rested r) l s x
      (record { view = f.view; log_view = f.log_view; checkpoint = f.checkpoint; commit = f.commit; applied = f.applied; reach = f.reach; parts = f.parts; loaded = f.loaded; waits = f.waits })
      (kept_rested r x.sound).sound refl refl x.stored

  pub goes_change_then : {F : Type 0} (g : Replica → Replica) (w : Word F) (t : Setting F) (r : Replica) (f : F) (l : Local) (s : Group Header) → Mid u start i (g r) l s
      → ((d : F) → Goes u start i l (w t (g r) d)) → Goes u start i l ((change g ⨾ w) t r f)
  unfolding change
  goes_change_then g w t r f l s x go = goes_then u start i (change g) w t r f l (goes_change u start i g t r f l s x) (λ a y. go (after_all t f []))

  pub goes_rested : {F : Type 0} (t : Setting F) (r : Replica) (f : F) (l : Local) (s : Group Header) → Mid u start i r l s → Goes u start i l (change rested t r f)
  goes_rested t r f l s x = goes_change u start i rested t r f l s (mid_rested r l s x)

  pub goes_acknowledge_then : {F : Type 0} (hash : List ℕ → List ℕ) (h : Header) (w : Word F) (t : Setting F) (r : Replica) (f : F) (l : Local) (s : Group Header) (x : Mid u start i r l s) → hash ≡ u.hash
      → r.view ≡ r.log_view → part_at r h.op ≡ Here h → ((k : Local) (a : Group Header) (d : F) → Mid u start i r k a → Goes u start i k (w t r d))
      → Goes u start i l ((acknowledge hash h ⨾ w) t r f)
  goes_acknowledge_then hash h w t r f l s x same begun is go =
      goes_says_then u start i (to_primary (prepare_ok hash h)) w t r f l s x
      ((x.place, (h, ap (λ (y : List ℕ → List ℕ). name_by y h) (sym same), may_vouch r l s x h.op h begun is)), tt) go

  pub goes_ask_view : {F : Type 0} (view sender : ℕ) (t : Setting F) (r : Replica) (f : F) (l : Local) (s : Group Header) → Mid u start i r l s → Goes u start i l (ask_view view sender t r f)
  goes_ask_view view sender t r f l s x = goes_says u start i (λ r. send_to sender (get_view view r) r) t r f l s x (tt, tt)

  pub goes_ask_view_then : {F : Type 0} (view sender : ℕ) (w : Word F) (t : Setting F) (r : Replica) (f : F) (l : Local) (s : Group Header) → Mid u start i r l s
      → ((k : Local) (a : Group Header) (d : F) → Mid u start i r k a → Goes u start i k (w t r d)) → Goes u start i l ((ask_view view sender ⨾ w) t r f)
  goes_ask_view_then view sender w t r f l s x go = goes_says_then u start i (λ r. send_to sender (get_view view r) r) w t r f l s x (tt, tt) go
