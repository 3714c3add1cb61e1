-- A request at a replica that is a group by itself: what it has just made and stored is counted, since it has vouched for that.
use Rattle.std.proofs.Common.{ℕ, zero, suc, ◌+◌, ◌%◌, ◌≤◌, ◌<◌, ◌≡◌, ◌∙◌, inl, inr, arith, refl, sym, ap, subst, true, List, [], ◌∷◌, ◌++◌, map, take, is_some}
use Rattle.vr_base.specs.declared.replicas.Replicas.{Replicas}
use Rattle.vr_base.specs.Replicas.{has_replica}
use Rattle.vr_header.specs.declared.header.Header.{Header}
use Rattle.vr_header.specs.Made.{Whole}
use Rattle.vr_msg.specs.declared.event.Event.{Event}
use Rattle.vr_msg.specs.declared.frame.Frame.TheVariants as frame
use Rattle.vr_msg.specs.declared.request.RequestFields.{RequestFields}
use Rattle.vr_rules.specs.Sound.{IsNameBytes}
use Rattle.vr_rules.specs.Replica.{Replica, forgetting, last_view, replication, head, header_at, with_part}
use Rattle.vr_rules.specs.Outputs.{prepare, send_to_all}
use Rattle.vr_rules.specs.Steps.{Effect, Say, Setting, Step, ◌⨾◌, change, does, says, after_all}
use Rattle.vr_rules.specs.Words.{writes, write, stored, advance}
use Rattle.vr_rules.specs.Rules.{make, on_request}
use Rattle.vr_rules.specs.Laws.{IsMessage}
use Rattle.vr_rules.specs.Deciding.{first_of, request_table}
use Rattle.vr_rules.proofs.SilentSteps.{mute_request}
use Rattle.vr_rules.proofs.SilentWaits.{mute_by, mute_naming}
use Rattle.vr_rules.proofs.Storing.{kept_stored}
use Rattle.vr_world.specs.Commitment.{Stored}
use Rattle.vr_world.specs.Storing.{here_in, in_view, stored_by}
use Rattle.law_1_machine.specs.Basics.{In}
use Rattle.law_1_machine.specs.Group.{Group, Made, made_at}
use Rattle.law_1_machine.specs.Machine as move
use Rattle.law_1_machine.specs.Members.{Message, Prepare_ok}
use Rattle.law_2_chains.specs.Local.{Local, carried}
use Rattle.law_2_chains.specs.Chains.{Setup, Every, AsksNothing, Mid, Goes}
use Rattle.law_2_chains.specs.Begins.{one_made, with_made}
use Rattle.law_2_chains.specs.Finished.{Finishes}
use Rattle.law_2_chains.specs.Lone.{CountsNoMore, IsLoneChain, IsStored, LoneChooses, Vouched, counted_by, vouch_for}
use Rattle.law_2_chains.specs.Tables.{HasVouchedAt}
use Rattle.law_2_chains.proofs.Tallies.{Tallies, tables_vouched}
use Rattle.law_2_chains.proofs.Scripts.{every_append}
use Rattle.law_2_chains.proofs.Writing.{goes_write, stored_ackers, stored_held, stored_here, stored_next, stored_up, stored_views}
use Rattle.law_2_chains.proofs.Applying.{goes_says_then}
use Rattle.law_2_chains.proofs.Learning.{HasVouched, goes_advance}
use Rattle.law_2_chains.proofs.Finishing.{goes_finishes}
use Rattle.law_2_chains.proofs.Repairs.{leads_is, may_prepare}
use Rattle.law_2_chains.proofs.Counting.{counts, counted_has, counted_within, quorum_vouched, voter}
use Rattle.law_2_chains.proofs.NewEntries.{MayMake, by_request, fields, makes, mid_makes, not_made, now}
use Rattle.law_2_chains.proofs.Calm.{Calms, calms_advance, calms_says, calms_then}
use Rattle.law_2_chains.proofs.Lone.{saved_views, vouches, vouches_at_end}
use Rattle.law_2_chains.proofs.LoneSteps.{begins_counted, begins_held, in_order, lone_goes, lone_mute}
use Rattle.law_2_chains.proofs.StoredLists.{IsCalm, counts_late, held_by, in_its, in_parts, of_view, view_has}
use Rattle.law_2_chains.proofs.Staying.{stays_advance}
use Rattle.law_2_chains.proofs.Tabling.{in_left, in_right, tables_stay}
use Rattle.law_2_chains.proofs.TabledWords.{tables_stored}

stored_checkpoint : (e : Whole) (r : Replica) → (stored e r).checkpoint ≡ r.checkpoint
unfolding forgetting with_part
stored_checkpoint e r = refl

-- before the Write has finished nothing counts but what did
made_early : (e : Whole) (r : Replica) (k : ℕ) → k < 1 → CountsNoMore r (take k (writes e r ∷ [])) []
made_early e r zero l x h = h
made_early e r (suc k) l x h = absurd (omega arith)

module _ (u : Setup) (quorum : replication u.quorums.n ≡ u.quorums.replication) where
  module _ (start : Group Header) (i : ℕ) (e : Whole) (r : Replica) (l : Local) (y : MayMake u start i e r l) where
    abbrev begun : Group Header
    begun = with_made e.header start

    abbrev q : Replica
    q = stored e r

    abbrev wrote : Effect
    wrote = writes e r

    with_it : Mid u begun i r l begun
    with_it = mid_makes u start i r l y.mid e.header (makes u start i e r l y)

    writes_it : {F : Type 0} (t : Setting F) (f : F) → Goes u begun i l (write e t r f)
    unfolding with_it mid_makes
    writes_it t f = goes_write u begun i e r l begun with_it y.may y.free (move.was_made (inl (ap (λ v. made_at v e.header.op e.header) (now u start i e r l y).0))) t f

    silent : Every AsksNothing (carried (wrote ∷ []) l).said
    silent = every_append AsksNothing l.said [] y.free tt

    -- the second part, once it has vouched
    prepares_it : {F : Type 0} (a b : Group Header) (z : Mid u begun i q (carried (wrote ∷ []) l) a) (w : Mid u b i q (carried (wrote ∷ []) l) b) → Vouched i q a b → (t : Setting F) (d : F)
        → Finishes u b i (carried (wrote ∷ []) l) ((says (send_to_all (prepare e)) ⨾ advance) t q d)
    prepares_it a b z w has t d =
        let sound = y.mid.sound in
        let v = stored_views e r sound y.may in
        let c = fields u start i e r l y in
        let p = leads_is r y.lead in
        let view : q.view ≡ q.log_view = v.0 ∙ (p.0 ∙ sym v.1) in
        let order = w.sound.order in
        let below = order.applied in
        let under = order.commit in
        let member = w.sound.member in
        let size_is = w.size in
        let old = sound.order in
        let old_applied = old.applied in
        let old_commit = old.commit in
        let each : (k : ℕ) → q.commit < k → k ≤ q.commit + counts q → HasVouched u b i q.log_view k =
        λ k above within.
        let know = counted_within q order.known in
        quorum_vouched u quorum b i q k w.size (counted_has q k above within) (λ j t. elim (voter q k j t) [
          | inl mine ↦
              let place : j ≡ i = mine.0 ∙ w.place in
              let vouch = has.all view k mine.1.0 (let c = in_order q w.sound in omega arith) mine.1.1 in
              rw place (let m = w.place in omega arith, (mine.1.0, inl (subst (λ g. In (Prepare_ok i g k mine.1.0) b.sent) view vouch)))
          | inr acker ↦
              let over : r.checkpoint < k = omega arith in
              let before = y.tables.acks y.lead k j (omega arith) (sym (ap (λ (s : Replicas). has_replica s j) (stored_ackers e r sound y.may k over)) ∙ acker) in
              let log : r.view ≡ q.log_view = p.0 ∙ sym v.1 in
              let sent : (m : Message Header) → In m start.sent → In m b.sent = λ m h. has.kept m (subst (In m) (sym z.under.sent) h) in
              let vouch = subst (λ g. HasVouchedAt u start g k j) log before.2 in
              (before.1, (vouch.0, elim vouch.1 [ inl ok ↦ inl (sent _ ok) | inr prep ↦ inr (prep.0, (prep.1.0, sent _ prep.1.1)) ]))
        ]) in
        goes_finishes u b i _ _
        (goes_says_then u b i (send_to_all (prepare e)) advance t q d _ b w (may_prepare u b i e q _ b w view (c.0 ∙ (p.1 ∙ rw (v.0, c.2) refl)) (stored_here e r sound y.may)) (λ k a d z.
        goes_advance u b i t q d k a z (counted_within q z.sound.order.known) each))

    -- what counts

    calms_prepares : {F : Type 0} → Calms {F = F} (says (send_to_all (prepare e)) ⨾ advance)
    calms_prepares = calms_then _ _ (calms_says (send_to_all (prepare e))) calms_advance

    saved_is : (r.saved.fields.view ≡ r.view) × (r.saved.fields.log_view ≡ r.log_view)
    saved_is = saved_views u start start i r l y.mid

    writes_counted : r.view ≡ r.log_view → In (in_its r.view e.header) (stored_by r.saved (here_in r) (wrote ∷ []))
    unfolding stored_by
    writes_counted begun = in_left _ (in_view r.saved (e.header ∷ [])) [] (view_has r.saved (e.header ∷ []) r.view e.header saved_is.0 (saved_is.1 ∙ sym begun) (inl refl))

    made_based : (h : Header) → In h (held_by (here_in r) (wrote ∷ [])) → q.view ≡ q.log_view → In (in_its q.view h) (counted_by r (wrote ∷ []))
    unfolding held_by
    made_based h j begun =
        let v = stored_views e r y.mid.sound y.may in
        let begun_r : r.view ≡ r.log_view = sym v.0 ∙ (begun ∙ v.1) in
        subst (λ (w : ℕ). In (in_its w h) (counted_by r (wrote ∷ []))) (sym v.0) (elim j [
          | inl new ↦ subst (λ (g : Header). In (in_its r.view g) (counted_by r (wrote ∷ []))) (sym new) (in_right _ (in_view r.saved (here_in r)) (stored_by r.saved (here_in r) (wrote ∷ [])) (writes_counted begun_r))
          | inr old ↦ in_left _ (in_view r.saved (here_in r)) (stored_by r.saved (here_in r) (wrote ∷ [])) (begins_counted u start i r l y.mid y.free h begun_r old)
        ])

    made_late : (es : List Effect) → Every (IsCalm q.view q.log_view) es → (k : ℕ) → CountsNoMore r ((wrote ∷ []) ++ take k es) (wrote ∷ [])
    made_late es calm k = counts_late r q.view q.log_view (wrote ∷ []) es calm made_based k

    made_held : (m : Message Header) → IsStored i q m → (x : Stored) × In x (counted_by r (wrote ∷ [])) × (m ≡ vouch_for i x)
    made_held m x =
        let v = stored_views e r y.mid.sound y.may in
        let begun_r : r.view ≡ r.log_view = sym v.0 ∙ (x.begun ∙ v.1) in
        elim (stored_held e r y.mid.sound y.may x.op x.header x.here) [
          | inl old ↦ begins_held u start i r l y.mid y.free (wrote ∷ []) m (record { begun = begun_r; op = x.op; above = subst (λ c. c < x.op) (stored_checkpoint e r) x.above; header = x.header; here = old; is = x.is ∙ ap (λ w. Prepare_ok i w x.op x.header) v.0 })
          | inr new ↦ (
            in_its r.view e.header,
            in_right _ (in_view r.saved (here_in r)) (stored_by r.saved (here_in r) (wrote ∷ [])) (writes_counted begun_r),
            x.is ∙ (ap (λ w. Prepare_ok i w x.op x.header) v.0 ∙ (ap (λ k. Prepare_ok i r.view k x.header) (sym new.1) ∙ ap (λ (g : Header). Prepare_ok i r.view e.header.op g) new.0)),
          )
        ]

    made_counted : (b : Group Header) → In (Prepare_ok i r.view e.header.op e.header) b.sent → (x : Stored) → In x (stored_by r.saved (here_in r) (wrote ∷ [])) → In (vouch_for i x) b.sent
    unfolding stored_by
    made_counted b vouch x j =
        elim (in_parts x (in_view r.saved (e.header ∷ [])) [] j) [
          | inl it ↦
              let z = of_view r.saved (e.header ∷ []) x it in
              elim z.2 [
                | inl same ↦ subst (λ (g : Header). In (Prepare_ok i x.view g.op g) b.sent) (sym same) (subst (λ (w : ℕ). In (Prepare_ok i w e.header.op e.header) b.sent) (sym (z.1 ∙ saved_is.0)) vouch)
                | inr none ↦ absurd none
              ]
          | inr none ↦ absurd none
        ]

    -- where the first part ended it vouches; then it goes on
    lone_make : {F : Type 0} (t : Setting F) (f : F) → IsLoneChain u start i l r (make e t r f)
    unfolding make write does change ◌⨾◌ says
    lone_make t f =
        let sound = y.mid.sound in
        let may = y.may in
        let g = writes_it t f in
        let a : Mid u begun i q (carried (wrote ∷ []) l) g.after = g.ends in
        let v = vouches u begun g.after i q (carried (wrote ∷ []) l) a silent in
        let d = after_all t f (wrote ∷ []) in
        let second : Step = (says (send_to_all (prepare e)) ⨾ advance) t q d in
        let h = prepares_it g.after v.0 a v.1 v.2 t d in
        let w = vouches_at_end u v.0 i second.replica (carried second.script (carried (wrote ∷ []) l)) h.after h.ends in
        let p = leads_is r y.lead in
        let first_place : i ≡ e.header.view % u.quorums.n = sym y.mid.place ∙ (p.1 ∙ (ap (λ n. r.view % n) y.mid.size ∙ ap (λ v. v % u.quorums.n) (sym y.view))) in
        let sent : (m : Message Header) → In m start.sent → In m w.0.sent = λ m k. w.2.kept m (h.ends.kept m (v.2.kept m (subst (In m) (sym a.under.sent) k))) in
        let view = stored_views e r sound may in
        let begun_view : q.view ≡ q.log_view = view.0 ∙ (p.0 ∙ sym view.1) in
        let here = stored_here e r sound may in
        let above : q.checkpoint < e.header.op = subst (λ c. c < e.header.op) (sym (stored_checkpoint e r)) may.above in
        let it_vouches : In (Prepare_ok i q.view e.header.op e.header) v.0.sent = v.2.all begun_view e.header.op e.header above here in
        let vouch : HasVouchedAt u w.0 r.view e.header.op i = (e.header, inl (w.2.kept _ (h.ends.kept _ (subst (λ (n : ℕ). In (Prepare_ok i n e.header.op e.header) v.0.sent) view.0 it_vouches)))) in
        let made_is : w.0.made ≡ begun.made = w.2.made ∙ (h.ends.none_made ∙ (v.2.made ∙ a.under.none_made)) in
        let up = stored_next e r sound may y.op in
        let over = stored_up e r sound may in
        let op = y.op in
        let stored_tables = tables_stored u start i e r sound may y.tables y.lead w.0 sent (λ several above. vouch) (λ k b above is.
        elim (subst (In (made_at r.view k b)) made_is is) [
          | inl one ↦ let same : k ≡ e.header.op = ap (λ (z : Made Header). z.number) one in absurd (omega arith)
          | inr old ↦ y.tables.top y.lead k b (omega arith) old
        ]) in
        record {
          first = write e t r f;
          second = second;
          script = refl;
          replica = refl;
          begun = begun;
          begins = one_made _ e _ refl first_place (not_made u start i e r l y);
          goes = g;
          silent = silent;
          early = made_early e r;
          late = made_late second.script (calms_prepares.every t q d);
          ground = v.0;
          grounds = v.2;
          held = made_held;
          counted = λ x j. made_counted v.0 (subst (λ (n : ℕ). In (Prepare_ok i n e.header.op e.header) v.0.sent) view.0 it_vouches) x j;
          finishes = h;
          after = w.0;
          reached = w.1;
          vouches = w.2;
          tables = λ b. tables_vouched u w.0 i second.replica h.after (in_order second.replica h.ends.sound) w.2 (tables_stay u start i advance t q (after_all t d (map Say (send_to_all (prepare e) q))) w.0 stays_advance (kept_stored e r sound may).sound stored_tables);
        }

  pub lone_request : {F : Type 0} (start : Group Header) (i : ℕ) (event : Event) (q : RequestFields) (t : Setting F) (r : Replica) (f : F) (l : Local) → Mid u start i r l start → Tallies u start i r → t.hash ≡ u.hash → r.cluster ≡ u.cluster
      → ((bytes : List ℕ) → IsNameBytes (t.hash bytes)) → r.view ≤ last_view → (0 < head r → is_some (header_at r (head r)) ≡ true) → Every AsksNothing l.said → IsMessage (frame.Request q)
      → LoneChooses u start i l event r (on_request q t r f)
  unfolding on_request
  lone_request start i event q t r f l x tables same group names last top free m =
      lone_mute u start i event (on_request q) (mute_naming _ (λ hash. mute_by _ (λ r. mute_request hash q (first_of (request_table q r))))) t r f l
      (by_request u start i (IsLoneChain u start i l r) q t r f l (λ z calm go. lone_goes u start i r l x free z calm tables go) (λ e y. lone_make start i e r l y t f) x tables same group names last top free m)
