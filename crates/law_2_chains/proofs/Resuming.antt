-- The second part of an opening: the replica runs with what was found. It leaves the view that it led, loads, applies and announces.
use Rattle.std.proofs.Common.{ℕ, ◌+◌, ◌≤◌, ◌≡◌, ◌∙◌, arith, refl, sym, ap, subst, Bool, true, false, not, cond, List, [], ◌∷◌, ◌++◌, get_or, map, replicate, Option, None}
use Rattle.std.specs.Prelude.{nat_le, nat_lt}
use Rattle.std.proofs.lemmas.Bool.{or_parts, true≢false}
use Rattle.vr_header.specs.declared.header.Header.{Header}
use Rattle.vr_header.specs.Names.{no_name}
use Rattle.vr_msg.specs.declared.statement.Statement.{Statement}
use Rattle.vr_rules.specs.Replica.{Replica, head, is_spent, is_started, last_view, leads, part_at, run}
use Rattle.vr_rules.specs.Outputs.{send_to_all, start_line, start_view_change}
use Rattle.vr_rules.specs.Steps.{Effect, Say, Setting, Word, ◌⨾◌, quiet, change, does, says, by, when, after_all}
use Rattle.vr_rules.specs.Words.{apply, load, save, saves, value_of, with_missing, with_saved}
use Rattle.vr_rules.specs.Opening.{announce, going_on, heard_itself, in_next_view, leave_view, resuming}
use Rattle.vr_rules.specs.Sound.{IsSound}
use Rattle.vr_rules.proofs.Keeping.{sound_alike}
use Rattle.vr_rules.proofs.Openings.{kept_next}
use Rattle.vr_rules.proofs.Wording.{kept_load, none_stated}
use Rattle.law_1_machine.specs.Group.{Group}
use Rattle.law_1_machine.specs.Members.{Memory}
use Rattle.law_1_machine.specs.Parts.{header}
use Rattle.law_1_machine.specs.Machine as move
use Rattle.law_2_chains.specs.Local.{Local, begun, through, carried}
use Rattle.law_2_chains.specs.Reflecting.{entries_by, Reflects, KeepsStored}
use Rattle.law_2_chains.specs.Chains.{Setup, Every, AsksNothing, Mid, Stopped, Goes}
use Rattle.law_2_chains.specs.Tables.{HasTables}
use Rattle.law_2_chains.proofs.Scripts.{carried_append, cut_append, goes_then, goes_by, goes_if, goes_when}
use Rattle.law_2_chains.proofs.Readying.{free_ready}
use Rattle.law_2_chains.proofs.Moving.{mid_stays, goes_says}
use Rattle.law_2_chains.proofs.Writing.{told_header}
use Rattle.law_2_chains.proofs.Saving.{Covers, forgotten, save_after, save_cut, save_ends, saved_sound}
use Rattle.law_2_chains.proofs.Applying.{goes_apply}
use Rattle.law_2_chains.proofs.Vouching.{goes_change_then}
use Rattle.law_2_chains.proofs.Blocks.{other_mid, quietly_load}
use Rattle.law_2_chains.proofs.Repairs.{leads_is}
use Rattle.law_2_chains.proofs.Beginning.{free_changes}
use Rattle.law_2_chains.proofs.Holding.{Holds, HoldsBy, holds_apply, holds_if, holds_more, holds_same}
use Rattle.law_2_chains.proofs.Staying.{holds_load}
use Rattle.law_2_chains.proofs.Tabling.{tables_unled}

-- while it isn't loaded it waits for a block: so the machine has no state
abbrev pub waiting : Replica → Replica
waiting r = with_missing (record { address = 0; sum = no_name } ∷ []) r

-- as it leaves the view that it led
abbrev pub left_if : Bool → Replica → Replica
left_if b r = cond b (with_saved (in_next_view r)) r

abbrev pub left : Replica → Replica
left r = left_if (leads r) r

saved_waiting : (r : Replica) → with_saved (in_next_view (waiting r)) ≡ waiting (with_saved (in_next_view r))
unfolding value_of run head part_at
saved_waiting r = refl

saves_waiting : (r : Replica) → saves (in_next_view (waiting r)) ≡ saves (in_next_view r)
unfolding value_of run head part_at
saves_waiting r = refl

left_sound : (b : Bool) (r : Replica) → IsSound r → IsSound (left_if b r)
left_sound true r h = saved_sound (in_next_view r) (kept_next r h).sound
left_sound false r h = h

left_applied : (b : Bool) (r : Replica) → r.applied ≡ r.checkpoint → (left_if b r).applied ≡ (left_if b r).checkpoint
left_applied true r e = e
left_applied false r e = e

left_statements : (b : Bool) (r : Replica) → (left_if b r).statements ≡ r.statements
left_statements true r = refl
left_statements false r = refl

left_unled : (b : Bool) (r : Replica) → leads r ≡ b → r.log_view ≤ r.view → leads (left_if b r) ≡ true → ⊥
left_unled true r e views l = let p = (leads_is (with_saved (in_next_view r)) l).0 in omega arith
left_unled false r e views l = true≢false (sym l ∙ e)

module _ (u : Setup) (start : Group Header) (i : ℕ) where
  -- ---- announce

  mid_itself : (r : Replica) (l : Local) (s : Group Header) → Mid u start i r l s → Mid u start i (heard_itself r) l s
  unfolding head part_at
  mid_itself r l s x =
      let f = x.reflects in
      mid_stays u start i r (heard_itself r) l s x
      (record { view = f.view; log_view = f.log_view; checkpoint = f.checkpoint; commit = f.commit; applied = f.applied; reach = f.reach; parts = f.parts; loaded = f.loaded; waits = f.waits })
      (sound_alike r (heard_itself r) refl x.sound) refl refl x.stored

  goes_announce : {F : Type 0} (t : Setting F) (r : Replica) (f : F) (l : Local) (s : Group Header) → Mid u start i r l s → Goes u start i l (announce t r f)
  goes_announce t r f l s x =
      let y = mid_itself r l s x in
      let q : Replica = heard_itself r in
      goes_by u start i _ t r f l (goes_when u start i (not (is_started r)) _ t r f l s x (λ b.
      goes_change_then u start i heard_itself _ t r f l s y (λ d.
      goes_by u start i _ t q d l (goes_when u start i (nat_le q.view last_view) (says (send_to_all start_view_change)) t q d l s y (λ c.
      goes_says u start i (send_to_all start_view_change) t q d l s y (free_ready u start.sent i y.memory (s.members i).slots (send_to_all start_view_change q) (free_changes u start i q)))))))

  -- ---- load

  loads_then : {F : Type 0} (w : Word F) (t : Setting F) (r : Replica) (f : F) (l : Local) (s : Group Header) → Mid u start i (waiting r) l s → IsSound r → r.applied ≡ r.checkpoint
      → ((a : Group Header) (d : F) → Mid u start i (load t r f).replica l a → Goes u start i l (w t (load t r f).replica d)) → Goes u start i l ((load ⨾ w) t r f)
  unfolding ◌⨾◌
  loads_then w t r f l s x sound at go =
      let y = quietly_load t r f in
      let q : Replica = (load t r f).replica in
      let sound_q : IsSound q = (kept_load t r f sound at).kept.sound in
      let none = x.reflects.waits (λ e. cc) in
      let z = other_mid u start i (waiting r) l s x none q.table q.state q.missing (subst IsSound y.replica sound_q) in
      let m : Mid u start i q l z.0 = subst (λ (p : Replica). Mid u start i p l z.0) (sym y.replica) z.1 in
      let d = after_all t f (load t r f).script in
      let g = go z.0 d m in
      subst (λ (es : List Effect). Goes u start i l (record { replica = (w t q d).replica; script = es ++ (w t q d).script })) (sym y.script) (record { after = g.after; ends = g.ends; cuts = g.cuts })

  -- ---- the start line

  says_then : {F : Type 0} (w : Word F) (t : Setting F) (r : Replica) (f : F) (l : Local) (s : Group Header) → Mid u start i (waiting r) l s
      → ((k : Local) (a : Group Header) (d : F) → Mid u start i (waiting r) k a → Goes u start i k (w t r d)) → Goes u start i l ((says start_line ⨾ w) t r f)
  unfolding says ◌⨾◌
  says_then w t r f l s x go =
      let h = goes_says u start i (λ p. start_line r) t (waiting r) f l s x (tt, tt) in
      let es : List Effect = map Say (start_line r) in
      let d = after_all t f es in
      let g = go (carried es l) h.after d h.ends in
      record { after = g.after; ends = rw (carried_append es (w t r d).script l) g.ends; cuts = cut_append (Stopped u start i) es (w t r d).script l h.cuts g.cuts }

  -- ---- the view is left

  covers_next : (r : Replica) (m : Memory Header) → Reflects r m → Covers (in_next_view r) (record m { view = r.view + 1 })
  unfolding head part_at
  covers_next r m f =
      record {
        view = refl;
        log_view = f.log_view;
        checkpoint = f.checkpoint;
        commit = f.commit;
        applied = f.applied;
        reach = f.reach;
        parts = λ k a. f.parts k;
        low = λ k h e. ap header (f.parts k) ∙ (told_header (part_at r k) ∙ e);
        loaded = f.loaded;
        waits = f.waits;
      }

  stored_next_view : (r : Replica) (l : Local) → KeepsStored r l.member → KeepsStored (in_next_view r) l.member
  unfolding part_at
  stored_next_view r l k = k

  leaves_led : {F : Type 0} (w : Word F) (t : Setting F) (r : Replica) (f : F) (l : Local) (s : Group Header) → Mid u start i (waiting r) l s → Every AsksNothing l.said
      → ((k : Local) (a : Group Header) (d : F) → Mid u start i (waiting (with_saved (in_next_view r))) k a → Goes u start i k (w t (with_saved (in_next_view r)) d))
      → Goes u start i l (((change in_next_view ⨾ save) ⨾ w) t r f)
  unfolding save does change ◌⨾◌
  leaves_led w t r f l s x free go =
      let p : Replica = waiting r in
      let q : Replica = in_next_view p in
      let m : Memory Header = x.memory in
      let m' : Memory Header = record m { view = p.view + 1 } in
      let view = x.reflects.view in
      let may : move.Save u.quorums (entries_by u.hash u.cluster) s m m' = move.enters (p.view + 1) (omega arith) in
      let covers = covers_next p m x.reflects in
      let sound = (kept_next p x.sound).sound in
      let stored = stored_next_view p l x.stored in
      let ready = free_ready u start.sent i (forgotten q m') (s.members i).slots l.said free in
      let cut = save_cut u start i q l s x.under m m' x.running may covers sound x.place x.size stored ready in
      let ends = save_ends u start i q l s x.under m m' x.running may covers sound x.place x.size stored ready in
      let after = save_after u start i q l s x.under m m' x.running may covers sound x.place x.size stored ready in
      let one : Mid u start i (waiting (with_saved (in_next_view r))) (through (saves q) l) after = subst (λ y. Mid u start i y (through (saves q) l) after) (saved_waiting r) ends in
      let two : Mid u start i (waiting (with_saved (in_next_view r))) (through (saves (in_next_view r)) l) after = subst (λ e. Mid u start i (waiting (with_saved (in_next_view r))) (through e l) after) (saves_waiting r) one in
      let g = go (through (saves (in_next_view r)) l) after (after_all t f (saves (in_next_view r) ∷ [])) two in
      record { after = g.after; ends = g.ends; cuts = (subst (λ e. Stopped u start i (begun e l)) (saves_waiting r) cut, g.cuts) }

  stays_then : {F : Type 0} (w : Word F) (t : Setting F) (r : Replica) (f : F) (l : Local) (s : Group Header) → Mid u start i (waiting r) l s
      → ((k : Local) (a : Group Header) (d : F) → Mid u start i (waiting r) k a → Goes u start i k (w t r d)) → Goes u start i l ((quiet ⨾ w) t r f)
  unfolding quiet ◌⨾◌ after_all
  stays_then w t r f l s x go = let h = go l s f x in record { after = h.after; ends = h.ends; cuts = h.cuts }

  leaves_if : {F : Type 0} (b : Bool) (w : Word F) (t : Setting F) (r : Replica) (f : F) (l : Local) (s : Group Header) → Mid u start i (waiting r) l s → Every AsksNothing l.said
      → ((k : Local) (a : Group Header) (d : F) → Mid u start i (waiting (left_if b r)) k a → Goes u start i k (w t (left_if b r) d)) → Goes u start i l ((when b (change in_next_view ⨾ save) ⨾ w) t r f)
  leaves_if true w t r f l s x free go = leaves_led w t r f l s x free go
  leaves_if false w t r f l s x free go = stays_then w t r f l s x go

  leaves_then : {F : Type 0} (w : Word F) (t : Setting F) (r : Replica) (f : F) (l : Local) (s : Group Header) → Mid u start i (waiting r) l s → Every AsksNothing l.said
      → ((k : Local) (a : Group Header) (d : F) → Mid u start i (waiting (left r)) k a → Goes u start i k (w t (left r) d)) → Goes u start i l ((leave_view ⨾ w) t r f)
  unfolding by ◌⨾◌
  leaves_then w t r f l s x free go = let h = leaves_if (leads r) w t r f l s x free go in record { after = h.after; ends = h.ends; cuts = h.cuts }

  goes_on : {F : Type 0} (t : Setting F) (r : Replica) (f : F) (l : Local) (s : Group Header) → Mid u start i (waiting r) l s → Every AsksNothing l.said → IsSound r → r.applied ≡ r.checkpoint → Goes u start i l (going_on t r f)
  goes_on t r f l s x free sound at =
      leaves_then _ t r f l s x free (λ k a d y.
      says_then _ t (left r) d k a y (λ k a d y.
      loads_then (apply ⨾ announce) t (left r) d k a y (left_sound (leads r) r sound) (left_applied (leads r) r at) (λ a e z.
      goes_then u start i apply announce t (load t (left r) d).replica e k (goes_apply u start i t (load t (left r) d).replica e k a z) (λ a z. goes_announce t _ _ _ a z))))

  -- a spent replica only says that it is there: in the machine it loads
  goes_spent : {F : Type 0} (t : Setting F) (r : Replica) (f : F) (l : Local) (s : Group Header) → Mid u start i (waiting r) l s → IsSound r → Goes u start i l (says start_line t r f)
  goes_spent t r f l s x sound =
      let z = other_mid u start i (waiting r) l s x (x.reflects.waits (λ e. cc)) r.table r.state r.missing sound in
      goes_says u start i start_line t r f l z.0 z.1 (tt, tt)

  pub goes_resuming : {F : Type 0} (t : Setting F) (r : Replica) (f : F) (l : Local) (s : Group Header) → Mid u start i (waiting r) l s → Every AsksNothing l.said → IsSound r → r.applied ≡ r.checkpoint → Goes u start i l (resuming t r f)
  goes_resuming t r f l s x free sound at =
      goes_by u start i _ t r f l (goes_if u start i (is_spent r) (says start_line) going_on t r f l (λ b. goes_spent t r f l s x sound) (λ b. goes_on t r f l s x free sound at))

  -- ---- the tables: it doesn't lead, and nothing was stated

  holds_itself : (r : Replica) → Holds r (heard_itself r)
  unfolding head part_at
  holds_itself r = record { view = refl; log_view = refl; index = refl; n = refl; commit = omega arith; top = omega arith; acks = λ k. refl; here = λ k h e. e; statements = refl }

  holds_told : {F : Type 0} (t : Setting F) (r : Replica) (f : F) → HoldsBy (change heard_itself ⨾ by (λ r. when (nat_le r.view last_view) (says (send_to_all start_view_change)))) t r f
  unfolding change by says ◌⨾◌
  holds_told t r f =
      let q : Replica = heard_itself r in
      holds_more r q _ (holds_itself r) (holds_if (nat_le q.view last_view) (says (send_to_all start_view_change)) t q (after_all t f []) (λ b. holds_same q))

  holds_announce : {F : Type 0} (t : Setting F) (r : Replica) (f : F) → HoldsBy announce t r f
  unfolding by
  holds_announce t r f = holds_if (not (is_started r)) (change heard_itself ⨾ by (λ r. when (nat_le r.view last_view) (says (send_to_all start_view_change)))) t r f (λ b. holds_told t r f)

  left_is : {F : Type 0} (b : Bool) (t : Setting F) (r : Replica) (f : F) → (when b (change in_next_view ⨾ save) t r f).replica ≡ left_if b r
  unfolding save does change quiet ◌⨾◌
  left_is true t r f = refl
  left_is false t r f = refl

  holds_rest : {F : Type 0} (t : Setting F) (r : Replica) (f : F) → IsSound r → r.applied ≡ r.checkpoint → HoldsBy (load ⨾ apply ⨾ announce) t r f
  unfolding ◌⨾◌
  holds_rest t r f sound at =
      let x = load t r f in
      let d = after_all t f x.script in
      let y = apply t x.replica d in
      holds_more r x.replica _ (holds_load t r f) (holds_more x.replica y.replica _ (holds_apply t x.replica d (kept_load t r f sound at).kept.sound) (holds_announce t y.replica (after_all t d y.script)))

  on_is : {F : Type 0} (t : Setting F) (r : Replica) (f : F) → IsSound r → r.applied ≡ r.checkpoint → Holds (left r) (going_on t r f).replica
  unfolding by says ◌⨾◌
  on_is t r f sound at =
      let x = when (leads r) (change in_next_view ⨾ save) t r f in
      let d = after_all t f x.script in
      let e = after_all t d (map Say (start_line x.replica)) in
      subst (λ q. Holds q ((load ⨾ apply ⨾ announce) t x.replica e).replica) (left_is (leads r) t r f)
      (holds_rest t x.replica e (subst IsSound (sym (left_is (leads r) t r f)) (left_sound (leads r) r sound)) (subst (λ (q : Replica). q.applied ≡ q.checkpoint) (sym (left_is (leads r) t r f)) (left_applied (leads r) r at)))

  tables_if : {F : Type 0} (b : Bool) (t : Setting F) (r : Replica) (f : F) (s : Group Header) (n : ℕ) → is_spent r ≡ b → IsSound r → r.applied ≡ r.checkpoint → r.statements ≡ replicate n None
      → HasTables u s i (cond b (says start_line) going_on t r f).replica
  unfolding says
  tables_if true t r f s n spent sound at none frozen = absurd (true≢false (sym spent ∙ (or_parts (nat_lt last_view r.view) (is_spent r) frozen).1))
  tables_if false t r f s n spent sound at none frozen =
      let h = on_is t r f sound at in
      let q : Replica = (going_on t r f).replica in
      let views = sound.order.views in
      let same : leads q ≡ leads (left r) = rw (h.view, h.log_view, h.index, h.n) refl in
      tables_unled u s i s q (λ l. left_unled (leads r) r refl views (sym same ∙ l))
      (λ j z e. absurd (none_stated n j z (sym (ap (λ (ys : List (Option Statement)). get_or ys j None) (h.statements ∙ (left_statements (leads r) r ∙ none))) ∙ e)))

  pub resuming_tables : {F : Type 0} (t : Setting F) (r : Replica) (f : F) (s : Group Header) (n : ℕ) → IsSound r → r.applied ≡ r.checkpoint → r.statements ≡ replicate n None → HasTables u s i (resuming t r f).replica
  unfolding by
  resuming_tables t r f s n sound at none = tables_if (is_spent r) t r f s n refl sound at none
