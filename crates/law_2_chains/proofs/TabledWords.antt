-- The words that change what a replica's tables say: an entry is stored, a view is entered or begun, a log is taken over.
use Rattle.std.proofs.Common.{ℕ, ◌+◌, ◌-◌, ◌%◌, ◌≤◌, ◌<◌, ◌≡◌, ◌∙◌, inl, inr, arith, refl, sym, ap, subst, true, false, not, cond, List, ◌++◌, length, get_or, replicate, map, Option, None}
use Rattle.std.specs.Prelude.{nat_lt, nat_le, ◌&&◌}
use Rattle.std.proofs.lemmas.Bool.{and_parts, cases_eq, cases_lt, lt-ltb, eqb-true}
use Rattle.std.proofs.lemmas.List.{get_or-drop, get_or-replicate, get_or_past, length-replicate}
use Rattle.vr_base.specs.Groups.{quorums_of}
use Rattle.vr_base.specs.declared.replicas.Replicas.{Replicas}
use Rattle.vr_base.specs.declared.table.Quorums.{Quorums}
use Rattle.vr_base.specs.Replicas.{no_replicas, has_replica, size}
use Rattle.vr_header.specs.declared.header.Header.{Header}
use Rattle.vr_header.specs.declared.part.Part.TheVariants.{Here, Nothing}
use Rattle.vr_header.specs.Made.{Whole}
use Rattle.vr_msg.specs.declared.choice.Choice.{Choice}
use Rattle.vr_msg.specs.declared.choice.Choice.TheVariants.{Ends, WaitsAt, TooFew}
use Rattle.vr_msg.specs.declared.frame.SyncView.{SyncView}
use Rattle.vr_msg.specs.declared.output.Output.{Output}
use Rattle.vr_msg.specs.declared.statement.Statement.{Statement}
use Rattle.vr_msg.specs.Choice.{choice, ops}
use Rattle.vr_rules.specs.Replica.{Replica, ackers_at, view_change, head, is_primary, is_started, last_view, leads, part_at, forgetting, with_part}
use Rattle.vr_rules.specs.Outputs.{do_view_change, prepare, send_to_all, start_view, to_primary, wait_line}
use Rattle.vr_rules.specs.Steps.{Effect, Say, Setting, Step, Word, ◌⨾◌, quiet, change, does, says, by, naming, each, after_all, outputs}
use Rattle.vr_rules.specs.Words.{Log, save, with_saved, entered, enter, rested, stored, write, taken, take, may_take, stated, chosen_log, choose_line, begin_view, try_log, obey_choice, decided, try, speak, resend, prepare_again, apply, advance, no_ackers, jump, jumped}
use Rattle.vr_rules.specs.Rules.{make}
use Rattle.vr_rules.specs.Sound.{IsSound}
use Rattle.vr_rules.proofs.Storing.{MayStore, kept_stored}
use Rattle.vr_rules.specs.Given.{IsLogFor}
use Rattle.vr_rules.proofs.Taking.{MayTake, may_take_is, over, kept_taken}
use Rattle.vr_rules.proofs.Trying.{all_stated, chosen_log_is, decided_ends}
use Rattle.vr_rules.proofs.Wording.{none_stated, kept_entered}
use Rattle.law_1_machine.specs.Basics.{In}
use Rattle.law_1_machine.specs.Group.{Group, Made, made_at}
use Rattle.law_1_machine.specs.Members.{Message, Do_view_change}
use Rattle.law_1_machine.proofs.Moves.{memory_of, reached_good}
use Rattle.law_2_chains.specs.Local.{Local}
use Rattle.law_2_chains.specs.Reflecting.{entries_by}
use Rattle.law_2_chains.specs.Chains.{Setup, Mid, statement_told}
use Rattle.law_2_chains.specs.Tables.{HasVouchedAt}
use Rattle.law_2_chains.proofs.Lone.{in_range}
use Rattle.law_2_chains.proofs.Tallies.{Tallies}
use Rattle.law_2_chains.specs.Begins.{with_made}
use Rattle.law_2_chains.proofs.Saving.{saved_sound}
use Rattle.law_2_chains.proofs.Repairs.{leads_is}
use Rattle.law_2_chains.proofs.Writing.{stored_ackers, stored_fields, stored_next, stored_other, stored_up, stored_views}
use Rattle.law_2_chains.proofs.Beginning.{AreStated}
use Rattle.law_2_chains.proofs.Takes.{above_later, taken_at, taken_views}
use Rattle.law_2_chains.proofs.Fresh.{no_flags}
use Rattle.law_2_chains.proofs.Staying.{stays_then, stays_each, stays_again, stays_apply, stays_advance, stays_last, stays_resend}
use Rattle.law_2_chains.proofs.LastWord.{last_word}
use Rattle.law_2_chains.proofs.Tabling.{Tabled, IsPrepared, tabled_after, tabled_says_then, tabled_if, tables_stay, tallies_unled, prepared_all, prepared_left, prepared_each, holds_each, vouched_by}

-- ---- an entry is stored by the primary

module _ (u : Setup) (start : Group Header) (i : ℕ) (e : Whole) (r : Replica) (sound : IsSound r) (may : MayStore e r) (tables : Tallies u start i r) (lead : leads r ≡ true) where
  more_vouched : (s : Group Header) → ((m : Message Header) → In m start.sent → In m s.sent) → (v k j : ℕ) → HasVouchedAt u start v k j → HasVouchedAt u s v k j
  more_vouched s sent v k j x = (x.0, elim x.1 [ inl a ↦ inl (sent _ a) | inr b ↦ inr (b.0, (b.1.0, sent _ b.1.1)) ])

  stored_statements : (stored e r).statements ≡ r.statements
  unfolding forgetting with_part
  stored_statements = refl

  stored_place : ((stored e r).index ≡ r.index) × ((stored e r).commit ≡ r.commit) × ((stored e r).n ≡ r.n)
  stored_place = stored_fields e r sound may

  leads_stored : leads (stored e r) ≡ leads r
  leads_stored = rw ((stored_views e r sound may).0, (stored_views e r sound may).1, stored_place.0, stored_place.2) refl

  pub tables_stored : (s : Group Header) → ((m : Message Header) → In m start.sent → In m s.sent) → (2 ≤ u.quorums.n → r.commit < e.header.op → HasVouchedAt u s r.view e.header.op i)
      → ((k : ℕ) (h : Header) → head (stored e r) < k → In (made_at r.view k h) s.made → ⊥) → Tallies u s i (stored e r)
  tables_stored s sent vouched made =
      let view = (stored_views e r sound may).0 in
      let commit = stored_place.1 in
      let up = stored_up e r sound may in
      let low = sound.order.applied in
      let less = sound.order.commit in
      record {
        acks = λ l k j above has.
            let over : r.checkpoint < k = omega arith in
            let a = tables.acks lead k j (omega arith) (sym (ap (λ (x : Replicas). has_replica x j) (stored_ackers e r sound may k over)) ∙ has) in
            let within = a.0 in
            (omega arith, a.1, subst (λ v. HasVouchedAt u s v k j) (sym view) (more_vouched s sent r.view k j a.2));
        own = λ several l k h above is.
            elim (cases_eq k e.header.op) [
              | inl t ↦ let new : HasVouchedAt u s r.view k i = subst (λ m. HasVouchedAt u s r.view m i) (sym t) (vouched several (omega arith)) in subst (λ v. HasVouchedAt u s v k i) (sym view) new
              | inr n ↦ let over : r.checkpoint < k = omega arith in subst (λ v. HasVouchedAt u s v k i) (sym view) (more_vouched s sent r.view k i (tables.own several lead k h (omega arith) (sym (stored_other e r sound may k over n) ∙ is)))
            ];
        top = λ l k h above is. made k h above (subst (λ v. In (made_at v k h) s.made) view is);
        stated = λ j t is. subst (λ v. In (Do_view_change j v (statement_told t)) s.sent) (sym view) (sent _ (tables.stated j t (sym (ap (λ (ys : List (Option Statement)). get_or ys j None) stored_statements) ∙ is)));
      }

  -- its own place in its view
  first : (place : r.index ≡ i) → (size_is : r.n ≡ u.quorums.n) → i ≡ (stored e r).view % u.quorums.n
  first place size_is =
      let p = leads_is r lead in
      let view = (stored_views e r sound may).0 in
      sym place ∙ (p.1 ∙ (ap (λ n. r.view % n) size_is ∙ ap (λ v. v % u.quorums.n) (sym view)))

  sound_after : IsSound (stored e r)
  sound_after = (kept_stored e r sound may).sound

  written : {F : Type 0} (t : Setting F) (f : F) → (write e t r f).replica ≡ stored e r
  unfolding write does change ◌⨾◌
  written t f = refl

  made_then : {F : Type 0} (t : Setting F) (d : F) → r.index ≡ i → r.n ≡ u.quorums.n → e.header.op ≡ head r + 1
      → Tabled u (with_made e.header start) i ((says (send_to_all (prepare e)) ⨾ advance) t (stored e r) d)
  unfolding ◌⨾◌ says
  made_then t d place size_is next s a =
      let q : Replica = stored e r in
      let said : List Effect = map Say (send_to_all (prepare e) q) in
      let c = stored_place in
      let view = (stored_views e r sound may).0 in
      let top = stored_next e r sound may next in
      let up = stored_up e r sound may in
      let vouched : 2 ≤ u.quorums.n → HasVouchedAt u s q.view e.header.op i =
      λ several.
      let two : 2 ≤ q.n = let n = c.2 in omega arith in
      let it = prepared_left q e.header.op said (advance t q (after_all t d said)).script (prepared_all e q two) in
      vouched_by u (with_made e.header start) s i q e.header.op _ a it (c.0 ∙ place) (first place size_is) in
      tables_stay u start i advance t q (after_all t d said) s stays_advance sound_after
      (tables_stored s a.kept (λ several l. subst (λ v. HasVouchedAt u s v e.header.op i) view (vouched several)) (λ k h above is.
      elim (subst (In (made_at r.view k h)) a.made is) [
        | inl one ↦ let same : k ≡ e.header.op = ap (λ (z : Made Header). z.number) one in absurd (omega arith)
        | inr old ↦ tables.top lead k h (omega arith) old
      ]))

  -- what was just made is prepared
  pub tabled_make : {F : Type 0} (t : Setting F) (f : F) → r.index ≡ i → r.n ≡ u.quorums.n → e.header.op ≡ head r + 1 → Tabled u (with_made e.header start) i (make e t r f)
  unfolding make
  tabled_make t f place size_is next =
      tabled_after u (with_made e.header start) i (write e) (says (send_to_all (prepare e)) ⨾ advance) t r f (λ d.
      subst (λ x. Tabled u (with_made e.header start) i ((says (send_to_all (prepare e)) ⨾ advance) t x d)) (sym (written t f)) (made_then t d place size_is next))

  resent : {F : Type 0} (t : Setting F) (q : Replica) (d : F) → is_started q ≡ true → is_primary q ≡ true → nat_lt q.commit e.header.op ≡ true → (resend e t q d).script ≡ map Say (send_to_all (prepare e) q)
  unfolding resend naming by says
  resent t q d a b c = rw (a, b, c) refl

  -- what was repaired is prepared, where it isn't committed
  pub tabled_repaired : {F : Type 0} (t : Setting F) (d : F) → r.index ≡ i → r.n ≡ u.quorums.n → Tabled u start i ((resend e ⨾ apply) t (stored e r) d)
  unfolding ◌⨾◌
  tabled_repaired t d place size_is s a =
      let q : Replica = stored e r in
      let x = resend e t q d in
      let c = stored_place in
      let view = (stored_views e r sound may).0 in
      let up = stored_up e r sound may in
      let l = and_parts (is_started q) (is_primary q) (leads_stored ∙ lead) in
      let rest = (apply t x.replica (after_all t d x.script)).script in
      tables_stay u start i (resend e ⨾ apply) t q d s (stays_then (resend e) apply (stays_resend e) stays_apply) sound_after
      (tables_stored s a.kept (λ several above.
      let two : 2 ≤ q.n = let n = c.2 in omega arith in
      let commit : nat_lt q.commit e.header.op ≡ true = lt-ltb q.commit e.header.op (let k = c.1 in omega arith) in
      let said = resent t q d l.0 l.1 commit in
      let it : IsPrepared q e.header.op (outputs (x.script ++ rest)) = prepared_left q e.header.op x.script rest (subst (λ es. IsPrepared q e.header.op (outputs es)) (sym said) (prepared_all e q two)) in
      subst (λ v. HasVouchedAt u s v e.header.op i) view (vouched_by u start s i q e.header.op _ a it (c.0 ∙ place) (first place size_is)))
      (λ k h above is. tables.top lead k h (omega arith) (subst (In (made_at r.view k h)) a.made is)))

-- ---- a view is entered

pub enter_is : {F : Type 0} (v : ℕ) (t : Setting F) (r : Replica) (f : F) → nat_lt last_view v ≡ false → (enter v t r f).replica ≡ with_saved (entered v r)
unfolding enter save says change does ◌⨾◌
enter_is v t r f low = rw low refl

pub enter_rests : {F : Type 0} (v : ℕ) (t : Setting F) (r : Replica) (f : F) → nat_lt last_view v ≡ true → (enter v t r f).replica ≡ rested r
unfolding enter change
enter_rests v t r f high = rw high refl

-- A view that isn't started: its statements were made for it, and nothing was made in it, where this replica is its primary.
pub record Enters (u : Setup) (start : Group Header) (i : ℕ) (r : Replica) : Type 0 where
  pub sound : IsSound r
  pub place : r.index ≡ i
  pub size : r.n ≡ u.quorums.n
  pub lower : r.log_view < r.view
  pub stated : AreStated u start r
  pub unmade : is_primary r ≡ true → (k : ℕ) (h : Header) → In (made_at r.view k h) start.made → ⊥

-- a view that its primary's disk hasn't begun has made nothing
pub unmade : (u : Setup) (start : Group Header) (i : ℕ) (r : Replica) (l : Local) → Mid u start i r l start → (v k : ℕ) (h : Header) → r.log_view < v → i ≡ v % u.quorums.n → In (made_at v k h) start.made → ⊥
unmade u start i r l x v k h lower first is =
    let q = u.quorums in
    let hs = entries_by u.hash u.cluster in
    let good = reached_good q hs start x.under.reached in
    let g = good.0 in
    let y = good.1 in
    let led = y.led v (y.made (made_at v k h) is).0 in
    let here : v ≤ g.log_view i = subst (λ j. v ≤ g.log_view j) (sym first) led in
    let marked = (y.members i).marked.log_view in
    let tied = (memory_of q hs g start y i x.memory x.running).0.log_view in
    let log_view = x.reflects.log_view in
    omega arith

pub first_of : (u : Setup) (i : ℕ) (r : Replica) → r.index ≡ i → r.n ≡ u.quorums.n → is_primary r ≡ true → i ≡ r.view % u.quorums.n
first_of u i r place size_is p = sym place ∙ (eqb-true r.index (r.view % r.n) p ∙ ap (λ n. r.view % n) size_is)

pub entered_so : (u : Setup) (start : Group Header) (i v : ℕ) (r : Replica) (l : Local) → Mid u start i r l start → r.view < v → Enters u start i (with_saved (entered v r))
unfolding entered
entered_so u start i v r l x later =
    let views = x.sound.order.views in
    let size_is = x.size in
    let q : Replica = with_saved (entered v r) in
    record {
      sound = saved_sound (entered v r) (kept_entered v r x.sound (omega arith)).sound;
      place = x.place;
      size = x.size;
      lower = omega arith;
      stated = λ j t e. absurd (none_stated r.n j t e);
      unmade = λ p k h is. unmade u start i r l x v k h (omega arith) (first_of u i q x.place x.size p) is;
    }

pub started_so : (u : Setup) (start : Group Header) (i : ℕ) (r : Replica) (l : Local) → Mid u start i r l start → AreStated u start r → r.log_view < r.view → Enters u start i r
started_so u start i r l x all lower =
    let size_is = x.size in
    record {
      sound = x.sound;
      place = x.place;
      size = x.size;
      lower = lower;
      stated = all;
      unmade = λ p k h is. unmade u start i r l x r.view k h lower (first_of u i r x.place x.size p) is;
    }

module _ (u : Setup) (start : Group Header) (i : ℕ) where
  no_lead : (r : Replica) → r.log_view < r.view → leads r ≡ true → ⊥
  no_lead r lower l = let p = (leads_is r l).0 in omega arith

  pub tables_entered : (r : Replica) → Enters u start i r → Tallies u start i r
  tables_entered r y = tallies_unled u start i start r (no_lead r y.lower) y.stated

  pub tabled_entered : (r : Replica) (x : Step) → x.replica ≡ r → Enters u start i r → Tabled u start i x
  tabled_entered r x same y s a = subst (Tallies u s i) (sym same) (tallies_unled u start i s r (no_lead r y.lower) (λ j t e. a.kept _ (y.stated j t e)))

  pub tabled_enter_then : {F : Type 0} (v : ℕ) (w : Word F) (t : Setting F) (r : Replica) (f : F) → nat_lt last_view v ≡ false → ((d : F) → Tabled u start i (w t (with_saved (entered v r)) d)) → Tabled u start i ((enter v ⨾ w) t r f)
  tabled_enter_then v w t r f low go = tabled_after u start i (enter v) w t r f (λ d. subst (λ q. Tabled u start i (w t q d)) (sym (enter_is v t r f low)) (go d))

  -- ---- a log is taken over

  take_is : {F : Type 0} (l : Log) (t : Setting F) (r : Replica) (f : F) → (take l t r f).replica ≡ with_saved (taken l r)
  unfolding take save does change ◌⨾◌
  take_is l t r f = refl

  jump_is : {F : Type 0} (v : SyncView) (t : Setting F) (r : Replica) (f : F) → (jump v t r f).replica ≡ with_saved (jumped v r)
  unfolding jump save does change ◌⨾◌
  jump_is v t r f = refl

  pub tabled_jump_then : {F : Type 0} (v : SyncView) (w : Word F) (t : Setting F) (r : Replica) (f : F) → ((d : F) → Tabled u start i (w t (with_saved (jumped v r)) d)) → Tabled u start i ((jump v ⨾ w) t r f)
  tabled_jump_then v w t r f go = tabled_after u start i (jump v) w t r f (λ d. subst (λ q. Tabled u start i (w t q d)) (sym (jump_is v t r f)) (go d))

  pub tabled_take_then : {F : Type 0} (l : Log) (w : Word F) (t : Setting F) (r : Replica) (f : F) → ((d : F) → Tabled u start i (w t (with_saved (taken l r)) d)) → Tabled u start i ((take l ⨾ w) t r f)
  tabled_take_then l w t r f go = tabled_after u start i (take l) w t r f (λ d. subst (λ q. Tabled u start i (w t q d)) (sym (take_is l t r f)) (go d))

pub jumped_statements : (v : SyncView) (r : Replica) → (jumped v r).statements ≡ replicate r.n None
unfolding jumped forgetting
jumped_statements v r = refl

pub taken_statements : (l : Log) (r : Replica) → (taken l r).statements ≡ replicate r.n None
unfolding taken forgetting
taken_statements l r = refl

no_acker : (n k j : ℕ) → has_replica (get_or (replicate n no_replicas) k no_replicas) j ≡ true → ⊥
no_acker n k j e =
    let none : get_or (replicate n no_replicas) k no_replicas ≡ no_replicas =
    elim (cases_lt k n) [
      | inl l ↦ get_or-replicate n k no_replicas no_replicas l
      | inr m ↦ get_or_past (replicate n no_replicas) k no_replicas (omega (arith, length-replicate n no_replicas))
    ] in
    no_flags j (sym (ap (λ (z : Replicas). has_replica z j) none) ∙ e)

pub taken_ackers : (l : Log) (r : Replica) (k j : ℕ) → has_replica (ackers_at (taken l r) k) j ≡ true → ⊥
unfolding taken forgetting
taken_ackers l r k j e =
    let gone : ℕ = head (over l r) - 63 - (over l r).first in
    no_acker (length r.parts) (gone + (k - (r.first + gone))) j (sym (ap (λ (z : Replicas). has_replica z j) (get_or-drop gone (no_ackers r) (k - (r.first + gone)) no_replicas)) ∙ e)

-- ---- a view begins

pub saved_part : (r : Replica) (k : ℕ) → part_at (with_saved r) k ≡ part_at r k
unfolding part_at
saved_part r k = refl

quiet_is : {F : Type 0} (t : Setting F) (r : Replica) (f : F) → (quiet t r f).replica ≡ r
unfolding quiet
quiet_is t r f = refl

says_is : {F : Type 0} (os : Replica → List Output) (t : Setting F) (r : Replica) (f : F) → (says os t r f).replica ≡ r
unfolding says
says_is os t r f = refl

module _ (u : Setup) (start : Group Header) (i : ℕ) where
  -- what is stored of the log with which a view begins is prepared
  tabled_prepared : {F : Type 0} (l : Log) (r : Replica) (y : Enters u start i r) → IsLogFor r l → MayTake l r → l.view ≡ r.view → is_primary r ≡ true → (t : Setting F) (d : F)
      → Tabled u start i ((by (λ r. each prepare_again (ops r.commit l.head)) ⨾ last_word) t (with_saved (taken l r)) d)
  unfolding by ◌⨾◌
  tabled_prepared l r y log may view_is prim t d s a =
      let q : Replica = with_saved (taken l r) in
      let v = taken_views l r y.sound log may in
      let view : q.view ≡ r.view = v.0 ∙ view_is in
      let sound : IsSound q = saved_sound (taken l r) (kept_taken l r y.sound log may).sound in
      let xs = ops q.commit l.head in
      let x = each prepare_again xs t q d in
      let holds = holds_each t xs q d sound in
      let after = ((stays_each prepare_again xs stays_again).every t q d sound).1 in
      let e = after_all t d x.script in
      let first : i ≡ q.view % u.quorums.n = first_of u i r y.place y.size prim ∙ ap (λ w. w % u.quorums.n) (sym view) in
      let lower = y.lower in
      let reaches = may.reaches in
      let low = y.sound.order.applied in
      let less = y.sound.order.commit in
      let up = holds.commit in
      let near : (k : ℕ) (h : Header) → part_at q k ≡ Here h → k ≤ l.head = λ k h is.
      elim (cases_lt l.head k) [
        | inr within ↦ within
        | inl past ↦
            let none : Nothing ≡ Here h = sym (above_later l r y.sound log may k past (omega arith)) ∙ (sym (taken_at l r y.sound log may k (omega arith)) ∙ (sym (saved_part (taken l r) k) ∙ is)) in
            absurd cc
      ] in
      tables_stay u start i last_word t x.replica e s stays_last after
      (record {
        acks = λ led k j above has. absurd (taken_ackers l r k j (sym (ap (λ (z : Replicas). has_replica z j) (holds.acks k)) ∙ has));
        own = λ several led k h above is.
            let two : 2 ≤ q.n = let n = v.3 in let m = y.size in omega arith in
            let within = near k h (holds.here k h is) in
            let it = prepared_left q k x.script (last_word t x.replica e).script (prepared_each t xs k h q d sound two (in_range (l.head - q.commit) (q.commit + 1) k (omega arith) (omega arith)) is) in
            subst (λ w. HasVouchedAt u s w k i) (sym holds.view) (vouched_by u start s i q k _ a it (v.2 ∙ y.place) first);
        top = λ led k h above is. y.unmade prim k h (subst (λ w. In (made_at w k h) start.made) (holds.view ∙ view) (subst (In (made_at x.replica.view k h)) a.made is));
        stated = λ j z is. absurd (none_stated r.n j z (sym (ap (λ (ys : List (Option Statement)). get_or ys j None) (holds.statements ∙ taken_statements l r)) ∙ is));
      })

  -- a view begins
  pub tabled_begin : {F : Type 0} (t : Setting F) (r : Replica) (f : F) → Enters u start i r → is_primary r ≡ true → (q : Quorums) (hs : List Header) → choice q (stated r) ≡ Ends hs → MayTake (chosen_log r (stated r) hs) r
      → Tabled u start i (begin_view (stated r) (chosen_log r (stated r) hs) t r f)
  unfolding begin_view
  tabled_begin t r f y prim q hs ends may =
      let log : Log = chosen_log r (stated r) hs in
      let log_is = chosen_log_is r q (stated r) hs (all_stated r y.sound) ends in
      tabled_says_then u start i (choose_line (stated r) log) _ t r f (λ d.
      tabled_take_then u start i log _ t r d (λ d.
      tabled_says_then u start i (send_to_all start_view) _ t (with_saved (taken log r)) d (λ d.
      tabled_prepared log r y log_is may refl prim t d)))

  tabled_quiet : {F : Type 0} (t : Setting F) (r : Replica) (f : F) → Enters u start i r → Tabled u start i (quiet t r f)
  tabled_quiet t r f y = tabled_entered u start i r (quiet t r f) (quiet_is t r f) y

  tabled_says : {F : Type 0} (os : Replica → List Output) (t : Setting F) (r : Replica) (f : F) → Enters u start i r → Tabled u start i (says os t r f)
  tabled_says os t r f y = tabled_entered u start i r (says os t r f) (says_is os t r f) y

  tabled_obeys : {F : Type 0} (c : Choice) (t : Setting F) (r : Replica) (f : F) → Enters u start i r → is_primary r ≡ true → decided r ≡ c → Tabled u start i (obey_choice (stated r) c t r f)
  unfolding try_log naming by
  tabled_obeys TooFew t r f y prim is = tabled_quiet t r f y
  tabled_obeys (WaitsAt op) t r f y prim is = tabled_says (wait_line op) t r f y
  tabled_obeys (Ends hs) t r f y prim is =
      let q = decided_ends r.n (stated r) hs (quorums_of r.n) is in
      let log : Log = chosen_log r (stated r) hs in
      tabled_if u start i (may_take t.hash log r) (begin_view (stated r) log) (says (wait_line log.head)) t r f (λ b. tabled_begin t r f y prim q.0 hs q.1 (may_take_is t.hash log r b)) (λ b. tabled_says (wait_line log.head) t r f y)

  pub tabled_try : {F : Type 0} (t : Setting F) (r : Replica) (f : F) → Enters u start i r → Tabled u start i (try t r f)
  unfolding try by
  tabled_try t r f y =
      tabled_if u start i (is_primary r && not (is_started r)) (obey_choice (stated r) (decided r)) quiet t r f (λ b. tabled_obeys (decided r) t r f y (and_parts (is_primary r) (not (is_started r)) b).0 refl) (λ b. tabled_quiet t r f y)

  pub tabled_speak : {F : Type 0} (t : Setting F) (r : Replica) (f : F) → Enters u start i r → Tabled u start i (speak t r f)
  unfolding speak by
  tabled_speak t r f y =
      tabled_if u start i (nat_le (view_change r.n) (size r.heard)) (cond (is_primary r) try (says (to_primary do_view_change))) quiet t r f
      (λ b. tabled_if u start i (is_primary r) try (says (to_primary do_view_change)) t r f (λ c. tabled_try t r f y) (λ c. tabled_says (to_primary do_view_change) t r f y))
      (λ b. tabled_quiet t r f y)
