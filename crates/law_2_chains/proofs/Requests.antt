-- A request that arrives (rules 1 to 6): the primary makes an entry, stores it and prepares it. What it has just made isn't counted.
use Rattle.std.proofs.Common.{ℕ, ◌+◌, ◌%◌, ◌≤◌, ◌<◌, ◌≡◌, ◌∙◌, inl, inr, arith, refl, sym, ap, subst, true, List, is_some}
use Rattle.std.proofs.lemmas.Bool.{cases_lt, leb-true}
use Rattle.vr_base.specs.declared.replicas.Replicas.{Replicas}
use Rattle.vr_base.specs.Replicas.{has_replica, size}
use Rattle.vr_header.specs.declared.header.Header.{Header}
use Rattle.vr_header.specs.declared.part.Part.TheVariants.{Here}
use Rattle.vr_header.specs.Made.{Whole}
use Rattle.vr_msg.specs.declared.frame.Frame.TheVariants as frame
use Rattle.vr_msg.specs.declared.request.RequestFields.{RequestFields}
use Rattle.vr_rules.specs.Sound.{IsNameBytes}
use Rattle.vr_rules.specs.Replica.{Replica, last_view, replication, head, header_at, part_at}
use Rattle.vr_rules.specs.Outputs.{prepare, send_to_all}
use Rattle.vr_rules.specs.Steps.{Setting}
use Rattle.vr_rules.specs.Words.{votes, has_quorum, stored, advance}
use Rattle.vr_rules.specs.Rules.{make, on_request}
use Rattle.vr_rules.specs.Laws.{IsMessage}
use Rattle.law_1_machine.specs.Group.{Group, made_at}
use Rattle.law_1_machine.specs.Machine as move
use Rattle.law_2_chains.specs.Local.{Local}
use Rattle.law_2_chains.specs.Chains.{Setup, Every, AsksNothing, Mid, Goes}
use Rattle.law_2_chains.specs.Begins.{IsChain, one_made}
use Rattle.law_2_chains.specs.Tables.{Fits, HasVouchedAt}
use Rattle.law_2_chains.proofs.Tallies.{Tallies, tables_of}
use Rattle.law_2_chains.proofs.Writing.{stored_ackers, stored_here, stored_other, stored_views, goes_write_then}
use Rattle.law_2_chains.proofs.Applying.{goes_says_then}
use Rattle.law_2_chains.proofs.Learning.{goes_advance}
use Rattle.law_2_chains.proofs.Finishing.{goes_finishes}
use Rattle.law_2_chains.proofs.Tabling.{chain_of, since_finished}
use Rattle.law_2_chains.proofs.Sizes.{several_by}
use Rattle.law_2_chains.proofs.TabledWords.{tabled_make}
use Rattle.law_2_chains.proofs.NewEntries.{MayMake, by_request, fields, known_op, made, make_script, makes, mid_makes, not_made, now}
use Rattle.law_2_chains.proofs.Repairs.{leads_is, may_prepare}
use Rattle.law_2_chains.proofs.Counting.{counts, counted_has, counted_within, voter, size_count, count_only, quorum_vouched}

module _ (u : Setup) (fits : Fits u) (several : 2 ≤ u.quorums.n) (start : Group Header) (i : ℕ) (e : Whole) (r : Replica) (l : Local) (y : MayMake u start i e r l) where
  abbrev with_it : Group Header
  with_it = made u start i e r l y

  abbrev q : Replica
  q = stored e r

  place : ((stored e r).index ≡ r.index) × ((stored e r).commit ≡ r.commit) × ((stored e r).n ≡ r.n)
  place = fields u start i e r l y

  number : (r.commit < e.header.op) × (r.checkpoint ≤ r.commit)
  number = known_op u start i e r l y

  itself_alone : (j : ℕ) → has_replica (votes q e.header.op) j ≡ true → j ≡ r.index
  itself_alone j t =
      elim (voter q e.header.op j t) [
        | inl mine ↦ mine.0 ∙ place.0
        | inr acker ↦
            let k = number in
            let above = y.may.above in
            let a = (y.tables.acks y.lead e.header.op j k.0 (sym (ap (λ (s : Replicas). has_replica s j) (stored_ackers e r y.mid.sound y.may e.header.op above)) ∙ acker)).0 in
            absurd (omega arith)
      ]

  not_yet : has_quorum q e.header.op ≡ true → ⊥
  not_yet has =
      let enough = leb-true (replication q.n) (size (votes q e.header.op)) has in
      let same : replication q.n ≡ u.quorums.replication = ap replication (place.2 ∙ y.mid.size) ∙ fits.replication_is in
      let member = y.mid.sound.member in
      let n_is = y.mid.size in
      let less = size_count (votes q e.header.op) u.quorums.n (λ j t. let a = itself_alone j t in omega arith) in
      let one = count_only (λ j. has_replica (votes q e.header.op) j) r.index u.quorums.n itself_alone in
      let two = several_by u fits several in
      omega arith

  old_only : q.commit + counts q ≤ head r
  old_only =
      let c = place.1 in
      let known = y.mid.sound.order.known in
      elim (cases_lt (head r) (q.commit + counts q)) [
        | inr less ↦ less
        | inl more ↦ absurd (not_yet (counted_has q e.header.op (omega arith) (omega arith)))
      ]

  old_voters : (k j : ℕ) → q.commit < k → k ≤ head r → has_replica (votes q k) j ≡ true → (j < u.quorums.n) × HasVouchedAt u start q.log_view k j
  old_voters k j above within t =
      let c = place.1 in
      let low = number in
      let begun = (leads_is r y.lead).0 in
      let log : r.view ≡ q.log_view = begun ∙ sym (stored_views e r y.mid.sound y.may).1 in
      let member = y.mid.sound.member in
      let n_is = y.mid.size in
      let over : r.checkpoint < k = omega arith in
      elim (voter q k j t) [
        | inl mine ↦
            let same : j ≡ r.index = mine.0 ∙ place.0 in
            let here : part_at r k ≡ Here mine.1.0 = sym (stored_other e r y.mid.sound y.may k over (λ s. omega (arith, s))) ∙ mine.1.1 in
            (omega arith, subst (λ v. HasVouchedAt u start v k j) log (subst (λ (w : ℕ). HasVouchedAt u start r.view k w) (sym (same ∙ y.mid.place)) (y.tables.own several y.lead k mine.1.0 (omega arith) here)))
        | inr acker ↦
            let a = y.tables.acks y.lead k j (omega arith) (sym (ap (λ (s : Replicas). has_replica s j) (stored_ackers e r y.mid.sound y.may k over)) ∙ acker) in
            (a.1, subst (λ v. HasVouchedAt u start v k j) log a.2)
      ]

  pub goes_make : {F : Type 0} (t : Setting F) (f : F) → Goes u with_it i l (make e t r f)
  unfolding make mid_makes
  goes_make t f =
      let x = mid_makes u start i r l y.mid e.header (makes u start i e r l y) in
      let v = stored_views e r y.mid.sound y.may in
      let w = place in
      let p = leads_is r y.lead in
      goes_write_then u with_it i e r l with_it x y.may y.free (move.was_made (inl (ap (λ v. made_at v e.header.op e.header) (now u start i e r l y).0))) _ t f (λ k a d z.
      goes_says_then u with_it i (send_to_all (prepare e)) advance t q d k a z
      (may_prepare u with_it i e q k a z (v.0 ∙ (p.0 ∙ sym v.1)) (w.0 ∙ (p.1 ∙ rw (v.0, w.2) refl)) (stored_here e r y.mid.sound y.may)) (λ k a d z.
      goes_advance u with_it i t q d k a z (counted_within q z.sound.order.known) (λ j above within.
      let old = old_only in
      quorum_vouched u fits.replication_is with_it i q j z.size (counted_has q j above within) (λ b t. old_voters j b above (omega arith) t))))

  -- its handling, with the entry made
  chain_make : {F : Type 0} (t : Setting F) (f : F) → IsChain u start i l (make e t r f)
  chain_make t f =
      let x = y.mid in
      let writes_it = make_script e t r f in
      let size_is = x.size in
      let lead = leads_is r y.lead in
      let first : i ≡ e.header.view % u.quorums.n = sym x.place ∙ (lead.1 ∙ (ap (λ n. r.view % n) x.size ∙ ap (λ v. v % u.quorums.n) (sym y.view))) in
      let ends = goes_finishes u with_it i l _ (goes_make t f) in
      record {
        begun = with_it;
        begins = one_made _ e writes_it.0 writes_it.1 first (not_made u start i e r l y);
        finishes = ends;
        tables = λ b. tables_of u ends.after i _ several (tabled_make u start i e r x.sound y.may y.tables y.lead t f x.place x.size y.op ends.after (since_finished u with_it i _ l _ ends.after ends.ends));
      }

pub chain_request : {F : Type 0} (u : Setup) (fits : Fits u) (several : 2 ≤ u.quorums.n) (start : Group Header) (i : ℕ) (q : RequestFields) (t : Setting F) (r : Replica) (f : F) (l : Local) → Mid u start i r l start → Tallies u start i r → t.hash ≡ u.hash → r.cluster ≡ u.cluster
    → ((bytes : List ℕ) → IsNameBytes (t.hash bytes)) → r.view ≤ last_view → (0 < head r → is_some (header_at r (head r)) ≡ true) → Every AsksNothing l.said → IsMessage (frame.Request q)
    → IsChain u start i l (on_request q t r f)
chain_request u fits several start i q t r f l x tables same group names last top free m =
    by_request u start i (IsChain u start i l) q t r f l (λ z calm go. let g = go start x tables in chain_of u several start i l z (goes_finishes u start i l z g.0) g.1) (λ e y. chain_make u fits several start i e r l y t f) x tables same group names last top free m
