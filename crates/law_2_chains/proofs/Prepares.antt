-- A prepare that arrives: each of its rules is a chain.
use Rattle.std.proofs.Common.{ℕ, ◌+◌, ◌≡◌, ◌∙◌, arith, refl, sym, ap, true, false, not, Option, Some, None}
use Rattle.std.specs.Prelude.{nat_lt, nat_le}
use Rattle.std.specs.Option.{option_map_or}
use Rattle.std.proofs.lemmas.Bool.{ltb-false, leb-false}
use Rattle.vr_header.specs.declared.header.Header.{Header}
use Rattle.vr_header.specs.declared.part.Part.{Part}
use Rattle.vr_header.specs.declared.part.Part.TheVariants.{Here, Lost, Wanted, Unknown, Nothing}
use Rattle.vr_header.specs.Made.{Whole}
use Rattle.vr_header.specs.Same.{same_header}
use Rattle.vr_header.proofs.SameHeaders.{same_header_is}
use Rattle.vr_header.specs.Parts.{header_of}
use Rattle.vr_msg.specs.declared.frame.Frame.TheVariants as frame
use Rattle.vr_msg.specs.declared.frame.Prepare.{Prepare}
use Rattle.vr_rules.specs.Replica.{Replica, header_at, is_here, part_at}
use Rattle.vr_rules.specs.Steps.{Setting, Word, ◌⨾◌, quiet, change, by, when}
use Rattle.vr_rules.specs.Words.{rested, write, stored, accept, learn}
use Rattle.vr_rules.specs.Deciding.{prepare_table, is_from_primary}
use Rattle.vr_rules.specs.Rules.{acknowledge, ask_view, obey_prepare, on_prepare}
use Rattle.vr_rules.specs.Laws.{IsMessage}
use Rattle.vr_rules.proofs.Ruling.{by_rows, group_of_primary, may_store_prepare}
use Rattle.vr_rules.proofs.Storing.{MayStore}
use Rattle.law_1_machine.specs.Group.{Group}
use Rattle.law_1_machine.specs.Machine.{MayWrite, was_prepared}
use Rattle.law_2_chains.specs.Local.{Local}
use Rattle.law_2_chains.specs.Reflecting.{entries_by}
use Rattle.law_2_chains.specs.Chains.{Setup, Every, AsksNothing, WasSent, Mid, Goes}
use Rattle.law_2_chains.proofs.Scripts.{goes_quiet, goes_by, goes_naming}
use Rattle.law_2_chains.proofs.Writing.{stored_here, stored_views, goes_write_then}
use Rattle.law_2_chains.proofs.Learning.{IsTold, by_prepare, goes_learn}
use Rattle.law_2_chains.proofs.Vouching.{mid_rested, goes_change_then, goes_rested, goes_acknowledge_then, goes_ask_view, goes_ask_view_then}

-- the header that is known at an op is this one
pub known_is : (h : Header) (o : Option Header) → option_map_or (λ d. same_header d h) o false ≡ true → o ≡ Some h
known_is h None e = absurd cc
known_is h (Some d) e = ap Some (same_header_is d h e)

pub here_is : (p : Part) (h : Header) → header_of p ≡ Some h → is_here p ≡ true → p ≡ Here h
here_is (Here g) h e t = cc
here_is (Lost g) h e t = absurd cc
here_is (Wanted g) h e t = absurd cc
here_is Unknown h e t = absurd cc
here_is Nothing h e t = absurd cc

module _ (u : Setup) (start : Group Header) (i : ℕ) where
  -- what is known of the replica after an entry is accepted
  pub record Has (e : Whole) (r q : Replica) : Type 0 where
    pub here : part_at q e.header.op ≡ Here e.header
    pub view : q.view ≡ r.view
    pub log_view : q.log_view ≡ r.log_view

  pub goes_accept_then : {F : Type 0} (e : Whole) (w : Word F) (t : Setting F) (r : Replica) (f : F) (l : Local) (s : Group Header) (x : Mid u start i r l s) → MayStore e r → Every AsksNothing l.said
      → MayWrite u.quorums (entries_by u.hash u.cluster) s x.memory e.header.op e.header → header_at r e.header.op ≡ Some e.header
      → ((q : Replica) (k : Local) (a : Group Header) (d : F) → Has e r q → Mid u start i q k a → Goes u start i k (w t q d)) → Goes u start i l ((accept e ⨾ w) t r f)
  unfolding accept ◌⨾◌ by quiet
  goes_accept_then e w t r f l s x may free writable known go =
      elim (is_here (part_at r e.header.op)) as (λ b. is_here (part_at r e.header.op) ≡ b → Goes u start i l ((when (not b) (write e) ⨾ w) t r f)) [
        | true ↦ λ is. go r l s _ (record { here = here_is (part_at r e.header.op) e.header known is; view = refl; log_view = refl }) x
        | false ↦ λ is.
            let v = stored_views e r x.sound may in
            goes_write_then u start i e r l s x may free writable w t f (λ k a d y. go (stored e r) k a d (record { here = stored_here e r x.sound may; view = v.0; log_view = v.1 }) y)
      ] refl

  -- ---- the rules

  module _ {F : Type 0} (p : Prepare) (t : Setting F) (r : Replica) (f : F) (l : Local) (s : Group Header) (x : Mid u start i r l s) (hash : t.hash ≡ u.hash) (free : Every AsksNothing l.said)
      (sent : WasSent u start.sent (frame.Prepare p)) where
    -- it is of the view that this replica is in and whose log it has
    told_here : (q : Replica) → q.log_view ≡ p.view → IsTold u start i q.log_view p.commit
    told_here q same = rw same (by_prepare p.replica p.entry.header.op p.entry.header sent)

    writable : (a : Group Header) (q : Replica) (k : Local) (y : Mid u start i q k a) → q.log_view ≡ p.view → MayWrite u.quorums (entries_by u.hash u.cluster) a y.memory p.entry.header.op p.entry.header
    writable a q k y same = was_prepared p.replica p.commit (rw (y.reflects.log_view, same, y.under.sent) sent)

    goes_past : r.log_view ≡ p.view → Goes u start i l ((change rested ⨾ learn p.commit) t r f)
    goes_past same = goes_change_then u start i rested (learn p.commit) t r f l s (mid_rested u start i r l s x) (λ d. goes_learn u start i p.commit t (rested r) d l s (mid_rested u start i r l s x) (told_here (rested r) same))

    goes_ahead : r.log_view ≡ p.view → Goes u start i l ((change rested ⨾ ask_view p.view p.replica ⨾ learn p.commit) t r f)
    goes_ahead same =
        let y = mid_rested u start i r l s x in
        goes_change_then u start i rested _ t r f l s y (λ d. goes_ask_view_then u start i p.view p.replica (learn p.commit) t (rested r) d l s y (λ k a d z.
        goes_learn u start i p.commit t (rested r) d k a z (told_here (rested r) same)))

    goes_next : r.log_view ≡ p.view → r.view ≡ p.view → MayStore p.entry (rested r)
        → Goes u start i l ((change rested ⨾ write p.entry ⨾ acknowledge t.hash p.entry.header ⨾ learn p.commit) t r f)
    goes_next same now may =
        let y = mid_rested u start i r l s x in
        let q : Replica = stored p.entry (rested r) in
        let v = stored_views p.entry (rested r) y.sound may in
        goes_change_then u start i rested _ t r f l s y (λ d. goes_write_then u start i p.entry (rested r) l s y may free (writable s (rested r) l y same) _ t d (λ k a d z.
        goes_acknowledge_then u start i t.hash p.entry.header _ t q d k a z hash (v.0 ∙ now ∙ sym (v.1 ∙ same)) (stored_here p.entry (rested r) y.sound may) (λ k a d z.
        goes_learn u start i p.commit t q d k a z (told_here q (v.1 ∙ same)))))

    goes_known : r.log_view ≡ p.view → r.view ≡ p.view → MayStore p.entry (rested r) → header_at (rested r) p.entry.header.op ≡ Some p.entry.header
        → Goes u start i l ((change rested ⨾ accept p.entry ⨾ acknowledge t.hash p.entry.header ⨾ learn p.commit) t r f)
    goes_known same now may known =
        let y = mid_rested u start i r l s x in
        goes_change_then u start i rested _ t r f l s y (λ d. goes_accept_then p.entry _ t (rested r) d l s y may free (writable s (rested r) l y same) known (λ q k a d has z.
        goes_acknowledge_then u start i t.hash p.entry.header _ t q d k a z hash (has.view ∙ now ∙ sym (has.log_view ∙ same)) has.here (λ k a d z.
        goes_learn u start i p.commit t q d k a z (told_here q (has.log_view ∙ same)))))

    rested_header : header_at (rested r) p.entry.header.op ≡ header_at r p.entry.header.op
    unfolding part_at
    rested_header = refl

    pub goes_prepare : IsMessage (frame.Prepare p) → Goes u start i l (on_prepare p t r f)
    unfolding on_prepare
    goes_prepare m =
        let op : ℕ = p.entry.header.op in
        let views = x.sound.order.views in
        let idle = goes_quiet u start i t r f l s x in
        let rests = goes_rested u start i t r f l s x in
        let log : nat_lt p.view r.view ≡ false → nat_lt r.log_view p.view ≡ false → r.log_view ≡ p.view = λ a b. let c = ltb-false p.view r.view a in let d = ltb-false r.log_view p.view b in omega arith in
        let now : nat_lt p.view r.view ≡ false → nat_lt r.log_view p.view ≡ false → r.view ≡ p.view = λ a b. let c = ltb-false p.view r.view a in let d = ltb-false r.log_view p.view b in omega arith in
        let may : not (is_from_primary p.version p.entry.header.cluster p.replica p.view r) ≡ false → nat_lt r.log_view p.view ≡ false → nat_le op r.checkpoint ≡ false → nat_lt (r.checkpoint + 64) op ≡ false
        → MayStore p.entry (rested r) =
        λ a b c d. may_store_prepare p r m (group_of_primary p.version p.entry.header.cluster p.replica p.view r a) (ltb-false r.log_view p.view b) (leb-false op r.checkpoint c) (ltb-false (r.checkpoint + 64) op d) in
        goes_naming u start i _ t r f l (goes_by u start i _ t r f l (by_rows (λ y. Goes u start i l (obey_prepare t.hash p y t r f)) (prepare_table t.hash p r) (
          λ c. idle,
          λ n0. (
            λ c. idle,
            λ n1. (
              λ c. goes_ask_view u start i p.view p.replica t r f l s x,
              λ n2. (
                λ c. goes_past (log n1 n2),
                λ n3. (
                  λ c. rests,
                  λ n4. (
                    λ c. goes_known (log n1 n2) (now n1 n2) (may n0 n2 n3 n4) (rested_header ∙ known_is p.entry.header (header_at r op) c),
                    λ n5. (λ c. goes_next (log n1 n2) (now n1 n2) (may n0 n2 n3 n4), λ n6. (λ c. goes_ahead (log n1 n2), λ n7. (λ c. rests, λ n8. idle))),
                  ),
                ),
              ),
            ),
          ),
        )))
