-- What a replica's tables rest on, from word to word.
use Rattle.std.proofs.Common.{ℕ, zero, suc, ◌+◌, ◌-◌, ◌≤◌, ◌<◌, ◌≡◌, ◌∙◌, inl, inr, arith, refl, sym, ap, subst, Bool, true, false, List, ◌++◌, length, get_or, replicate, min, max, Option, Some, None}
use Rattle.std.specs.Prelude.{nat_lt, ◌&&◌}
use Rattle.std.proofs.lemmas.Bool.{and_parts, cases_lt, cases_eq, ltb-true}
use Rattle.std.proofs.lemmas.List.{length-replicate, get_or_append_left, get_or-append_right, get_or-replicate, get_or_past}
use Rattle.vr_base.specs.declared.replicas.Replicas.{Replicas}
use Rattle.vr_base.specs.Replicas.{no_replicas, has_replica}
use Rattle.vr_ckpt.specs.declared.saving.SavedCheckpoint as checkpoint
use Rattle.vr_header.specs.declared.header.Header.{Header}
use Rattle.vr_header.specs.declared.part.Part.{Part}
use Rattle.vr_header.specs.declared.part.Part.TheVariants.{Here, Lost, Wanted, Unknown, Nothing}
use Rattle.vr_header.specs.Made.{Whole}
use Rattle.vr_rules.specs.Replica.{Replica, ackers_at, head, leads, part_at, with_part}
use Rattle.vr_rules.specs.Steps.{Setting, Word, ◌⨾◌, quiet, change, says, does, by, reading, when, times}
use Rattle.vr_rules.specs.Words.{entry_of, or_lost, with_entry, with_entry_at, applied, with_checkpoint, checkpoint_of, make_checkpoint, is_checkpoint, apply_entry, is_loaded, apply_next, apply, save, learn, advanced, advance, rested, with_saved}
use Rattle.vr_rules.specs.Sound.{IsSound}
use Rattle.vr_rules.proofs.Keeping.{sound_commit}
use Rattle.vr_rules.proofs.Storing.{moved, moved_at, moved_head}
use Rattle.vr_rules.proofs.Wording.{keeps_apply_next}
use Rattle.law_1_machine.specs.Basics.{In}
use Rattle.vr_msg.specs.declared.statement.Statement.{Statement}
use Rattle.law_1_machine.specs.Members.{Message, Do_view_change}
use Rattle.law_1_machine.specs.Group.{Group, made_at}
use Rattle.law_2_chains.specs.Chains.{Setup, statement_told}
use Rattle.law_2_chains.specs.Tables.{HasVouchedAt}
use Rattle.law_2_chains.proofs.Tallies.{Tallies}
use Rattle.law_2_chains.proofs.Counting.{counts, counted_within}
use Rattle.law_2_chains.proofs.Applying.{op_is, at_lost, other_lost, head_lost}

-- q comes of r: nothing that the tables ask for is more
pub record Holds (r q : Replica) : Type 0 where
  pub view : q.view ≡ r.view
  pub log_view : q.log_view ≡ r.log_view
  pub index : q.index ≡ r.index
  pub n : q.n ≡ r.n
  pub commit : r.commit ≤ q.commit
  pub top : head r ≤ head q
  pub acks : (k : ℕ) → ackers_at q k ≡ ackers_at r k
  pub here : (k : ℕ) (h : Header) → part_at q k ≡ Here h → part_at r k ≡ Here h
  pub statements : q.statements ≡ r.statements

pub holds_same : (r : Replica) → Holds r r
holds_same r = record { view = refl; log_view = refl; index = refl; n = refl; commit = omega arith; top = omega arith; acks = λ k. refl; here = λ k h e. e; statements = refl }

pub holds_more : (a b c : Replica) → Holds a b → Holds b c → Holds a c
holds_more a b c h k =
    let hc = h.commit in
    let kc = k.commit in
    let ht = h.top in
    let kt = k.top in
    record {
      view = k.view ∙ h.view;
      log_view = k.log_view ∙ h.log_view;
      index = k.index ∙ h.index;
      n = k.n ∙ h.n;
      commit = omega arith;
      top = omega arith;
      acks = λ j. k.acks j ∙ h.acks j;
      here = λ j g e. h.here j g (k.here j g e);
      statements = k.statements ∙ h.statements;
    }

leads_same : (r q : Replica) → Holds r q → leads q ≡ leads r
leads_same r q h = rw (h.view, h.log_view, h.index, h.n) refl

-- then its tables are still true, where all that was sent is sent and nothing was made
pub tables_hold : (u : Setup) (s t : Group Header) (i : ℕ) (r q : Replica) → Holds r q → t.made ≡ s.made → ((m : Message Header) → In m s.sent → In m t.sent) → Tallies u s i r → Tallies u t i q
tables_hold u s t i r q h made sent tables =
    let up = h.commit in
    let top = h.top in
    let lead = leads_same r q h in
    let more : (v k j : ℕ) → HasVouchedAt u s v k j → HasVouchedAt u t v k j = λ v k j x. (x.0, elim x.1 [ inl a ↦ inl (sent _ a) | inr b ↦ inr (b.0, (b.1.0, sent _ b.1.1)) ]) in
    record {
      acks = λ l k j above has.
          let a = tables.acks (sym lead ∙ l) k j (omega arith) (sym (ap (λ (x : Replicas). has_replica x j) (h.acks k)) ∙ has) in
          let within = a.0 in
          (omega arith, a.1, subst (λ v. HasVouchedAt u t v k j) (sym h.view) (more r.view k j a.2));
      own = λ several l k g above is. subst (λ v. HasVouchedAt u t v k i) (sym h.view) (more r.view k i (tables.own several (sym lead ∙ l) k g (omega arith) (h.here k g is)));
      top = λ l k g above is. tables.top (sym lead ∙ l) k g (omega arith) (subst (λ v. In (made_at v k g) s.made) h.view (subst (In (made_at q.view k g)) made is));
      stated = λ j x is. subst (λ v. In (Do_view_change j v (statement_told x)) t.sent) (sym h.view) (sent _ (tables.stated j x (sym (ap (λ (ys : List (Option Statement)). get_or ys j None) h.statements) ∙ is)));
    }

-- ---- changes

holds_commit : (r : Replica) (c : ℕ) → r.commit ≤ c → Holds r (record r { commit = c })
unfolding head part_at
holds_commit r c l = record { view = refl; log_view = refl; index = refl; n = refl; commit = l; top = omega arith; acks = λ k. refl; here = λ k h e. e; statements = refl }

pub holds_rested : (r : Replica) → Holds r (rested r)
unfolding head part_at
holds_rested r = record { view = refl; log_view = refl; index = refl; n = refl; commit = omega arith; top = omega arith; acks = λ k. refl; here = λ k h e. e; statements = refl }

holds_applied : (e : Whole) (r : Replica) → Holds r (applied e r)
unfolding head part_at
holds_applied e r = record { view = refl; log_view = refl; index = refl; n = refl; commit = omega arith; top = omega arith; acks = λ k. refl; here = λ k h e. e; statements = refl }

holds_lost : (k : ℕ) (h : Header) (r : Replica) → IsSound r → part_at r k ≡ Here h → Holds r (with_part k (Lost h) r)
unfolding with_part
holds_lost k h r sound is =
    let top = head_lost k h r sound is in
    record {
      view = refl;
      log_view = refl;
      index = refl;
      n = refl;
      commit = omega arith;
      top = omega arith;
      acks = λ j. refl;
      here = λ j g e. elim (cases_eq j k) [
        | inl t ↦ let no_here : Lost h ≡ Here g = sym (at_lost k h r sound is) ∙ subst (λ i. part_at (with_part k (Lost h) r) i ≡ Here g) t e in absurd cc
        | inr n ↦ sym (other_lost k h r sound is j n) ∙ e
      ];
      statements = refl;
    }

more_none : (xs : List Replicas) (n i : ℕ) → get_or (xs ++ replicate n no_replicas) i no_replicas ≡ get_or xs i no_replicas
more_none xs n i =
    elim (cases_lt i (length xs)) [
      | inl within ↦ get_or_append_left xs (replicate n no_replicas) no_replicas i within
      | inr past ↦
          get_or-append_right xs (replicate n no_replicas) (length xs) i no_replicas refl past ∙ elim (cases_lt (i - length xs) n) [
            | inl l ↦ get_or-replicate n (i - length xs) no_replicas no_replicas l
            | inr m ↦ get_or_past (replicate n no_replicas) (i - length xs) no_replicas (omega (arith, length-replicate n no_replicas))
          ] ∙ sym (get_or_past xs i no_replicas past)
    ]

holds_moved : (c : checkpoint.SavedCheckpoint) (e : Whole) (r : Replica) → IsSound r → r.applied < r.commit → Holds r (moved c e r)
unfolding with_checkpoint
holds_moved c e r sound room =
    let top = moved_head c e r sound room in
    record {
      view = refl;
      log_view = refl;
      index = refl;
      n = refl;
      commit = omega arith;
      top = omega arith;
      acks = λ k. more_none r.ackers (r.applied + 1 - r.checkpoint) (k - r.first);
      here = λ k h t. sym (moved_at c e r k) ∙ t;
      statements = refl;
    }

-- ---- words

-- of one replica and disk
abbrev pub HoldsBy : {F : Type 0} → Word F → Setting F → Replica → F → Type 0
HoldsBy w t r f = Holds r (w t r f).replica

holds_or_lost : {F : Type 0} (k : ℕ) (h : Header) (w : Whole → Word F) (o : Option Whole) (t : Setting F) (r : Replica) (f : F) → IsSound r → part_at r k ≡ Here h → ((e : Whole) → HoldsBy (w e) t r f) → HoldsBy (or_lost h w o) t r f
unfolding change
holds_or_lost k h w None t r f sound is go = let e = op_is k h r sound is in subst (λ j. Holds r (with_part j (Lost h) r)) (sym e) (holds_lost k h r sound is)
holds_or_lost k h w (Some e) t r f sound is go = go e

pub holds_part : {F : Type 0} (w : Whole → Word F) (k : ℕ) (p : Part) (t : Setting F) (r : Replica) (f : F) → IsSound r → part_at r k ≡ p → ((e : Whole) → HoldsBy (w e) t r f) → HoldsBy (with_entry w p) t r f
unfolding reading quiet
holds_part w k (Here h) t r f sound is go = holds_or_lost k h w (entry_of h t f) t r f sound is go
holds_part w k (Lost h) t r f sound is go = holds_same r
holds_part w k (Wanted h) t r f sound is go = holds_same r
holds_part w k Unknown t r f sound is go = holds_same r
holds_part w k Nothing t r f sound is go = holds_same r

holds_saved : (r : Replica) → Holds r (with_saved r)
unfolding head part_at
holds_saved r = record { view = refl; log_view = refl; index = refl; n = refl; commit = omega arith; top = omega arith; acks = λ k. refl; here = λ k h e. e; statements = refl }

holds_checkpoint : {F : Type 0} (e : Whole) (b : Bool) (t : Setting F) (r : Replica) (f : F) → IsSound r → r.applied < r.commit → Holds r (when b make_checkpoint t (applied e r) f).replica
unfolding make_checkpoint save by reading does change ◌⨾◌ quiet
holds_checkpoint e true t r f sound room = let c = checkpoint_of (applied e r) t f in holds_more r (moved c e r) _ (holds_moved c e r sound room) (holds_saved (moved c e r))
holds_checkpoint e false t r f sound room = holds_applied e r

holds_apply_entry : {F : Type 0} (e : Whole) (t : Setting F) (r : Replica) (f : F) → IsSound r → r.applied < r.commit → HoldsBy (apply_entry e) t r f
unfolding apply_entry says change by ◌⨾◌
holds_apply_entry e t r f sound room = holds_checkpoint e (is_checkpoint (r.applied + 1)) t r _ sound room

pub holds_if : {F : Type 0} (b : Bool) (w : Word F) (t : Setting F) (r : Replica) (f : F) → (b ≡ true → HoldsBy w t r f) → HoldsBy (when b w) t r f
unfolding quiet
holds_if true w t r f h = h refl
holds_if false w t r f h = holds_same r

holds_apply_next : {F : Type 0} (t : Setting F) (r : Replica) (f : F) → IsSound r → HoldsBy apply_next t r f
unfolding apply_next by with_entry_at
holds_apply_next t r f sound =
    holds_if (is_loaded r && nat_lt r.applied r.commit) (with_entry_at (r.applied + 1) apply_entry) t r f (λ b.
    let p = and_parts (is_loaded r) (nat_lt r.applied r.commit) b in
    holds_part apply_entry (r.applied + 1) (part_at r (r.applied + 1)) t r f sound refl (λ e. holds_apply_entry e t r f sound (ltb-true r.applied r.commit p.1)))

holds_times : {F : Type 0} (n : ℕ) (t : Setting F) (r : Replica) (f : F) → IsSound r → HoldsBy (times n apply_next) t r f
unfolding times quiet ◌⨾◌
holds_times zero t r f sound = holds_same r
holds_times (suc n) t r f sound =
    let q = (apply_next t r f).replica in
    holds_more r q _ (holds_apply_next t r f sound) (holds_times n t q _ (keeps_apply_next.every t r f sound).kept.sound)

pub holds_apply : {F : Type 0} (t : Setting F) (r : Replica) (f : F) → IsSound r → HoldsBy apply t r f
unfolding apply by
holds_apply t r f sound = holds_times (r.commit - r.applied) t r f sound

pub holds_learn : {F : Type 0} (c : ℕ) (t : Setting F) (r : Replica) (f : F) → IsSound r → HoldsBy (learn c) t r f
unfolding learn change ◌⨾◌
holds_learn c t r f sound =
    let known = sound.order.known in
    let d : ℕ = max r.commit (min c (head r)) in
    holds_more r (record r { commit = d }) _ (holds_commit r d (omega arith)) (holds_apply t (record r { commit = d }) _ (sound_commit r d (omega arith) (omega arith) sound))

pub holds_advance : {F : Type 0} (t : Setting F) (r : Replica) (f : F) → IsSound r → HoldsBy advance t r f
unfolding advance advanced change ◌⨾◌
holds_advance t r f sound =
    let d : ℕ = r.commit + counts r in
    let top = counted_within r sound.order.known in
    holds_more r (record r { commit = d }) _ (holds_commit r d (omega arith)) (holds_apply t (record r { commit = d }) _ (sound_commit r d (omega arith) top sound))
