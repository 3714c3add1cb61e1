-- An opening gives a sound replica, whatever reads.
use Rattle.std.proofs.Common.{ℕ, zero, suc, ◌+◌, ◌-◌, ◌%◌, ◌≤◌, ◌<◌, ◌≡◌, ◌∙◌, ◌⊎◌, inl, inr, arith, refl, sym, ap, subst, Bool, true, false, cond, List, [], ◌∷◌, ◌++◌, length, Option, Some, None}
use Rattle.std.specs.Prelude.{filter, slice_get, is_some, nat_le, not}
use Rattle.std.specs.List.{range_with_len}
use Rattle.std.specs.Option.{option_map}
use Rattle.std.proofs.lemmas.Bool.{cases_lt, cases_eq, leb-true, cond_both}
use Rattle.std.proofs.lemmas.List.{length-set, length-replicate, get_or-replicate, get_or_past}
use Rattle.std.proofs.lemmas.List.FromFn.{length-map-range_with_len}
use Rattle.vr_state.specs.Sessions.{HaveNumbers}
use Rattle.vr_state.specs.Folds.{empty}
use Rattle.vr_base.specs.Replicas.{no_replicas}
use Rattle.vr_header.specs.declared.header.Header.{Header}
use Rattle.vr_header.specs.declared.part.Part.{Part}
use Rattle.vr_header.specs.declared.part.Part.TheVariants as part
use Rattle.vr_header.specs.Made.{Whole}
use Rattle.vr_header.specs.Parts.{has_header, header_of}
use Rattle.vr_recover.specs.declared.readings.Verdict.{Verdict}
use Rattle.vr_recover.specs.declared.readings.Verdict.TheVariants as verdict
use Rattle.vr_super.specs.Copies.{SuperValue}
use Rattle.vr_rules.specs.Replica.{Replica, part_at, is_spent, is_started, leads, last_view, forgetting, with_part}
use Rattle.vr_rules.specs.Steps.{Effect, Mend, Rewrite, Setting, Word, ◌⨾◌, quiet, change, does, says, by, reading, when, each, after_all}
use Rattle.vr_rules.specs.Outputs.{send_to_all, start_view_change, start_line}
use Rattle.vr_rules.specs.Words.{entry_of, save, load, apply}
use Rattle.vr_rules.specs.Opening.{first_listed, blank, Slot, slot_at, slot_verdict, entry_header, part_by, rewrite, mend_slot, recover_op, old_part, recover_old, clouded_part, clouded_at, clouded, stored_above, is_listed, recover_parts, in_next_view, leave_view, heard_itself, announce, opening, going_on, resuming}
use Rattle.vr_rules.specs.Sound.{IsSound}
use Rattle.vr_rules.specs.Laws.{IsMending, ReadsHeaders, OpeningsAreSound}
use Rattle.vr_rules.proofs.Heads.{Spans, part_within, part_before, known_within, knows_some, head_within, head_reaches, with_part_at, with_part_other, remade, remade_at, remade_known, forgetting_checkpoint}
use Rattle.vr_rules.proofs.Keeping.{Kept, Roomy, sound_view, sound_forgetting}
use Rattle.vr_rules.proofs.Combining.{Keeps, kept_then, keeps_then, keeps_says, keeps_change, keeps_by, keeps_when}
use Rattle.vr_rules.specs.Found.{IsOf, Reads, Partly}
use Rattle.vr_rules.proofs.Slots.{Value, value_is, Right, right_header, slot_right}
use Rattle.vr_rules.proofs.Wording.{kept_alike, keeps_save, keeps_apply, kept_load, none_stated}

-- ---- disks that are mended

pub reads_after : {F : Type 0} (s : Setting F) (f : F) (e : Effect) → IsMending e → ReadsHeaders s f → ReadsHeaders s (s.after f e)
unfolding after_all
reads_after s f e is h = record {
  header = λ es all slot g l at. h.header (e ∷ es) (is, all) slot g l at;
  entry = λ es all slot g l at. h.entry (e ∷ es) (is, all) slot g l at;
}

reads_slot : {F : Type 0} (s : Setting F) (f : F) (k : ℕ) → ReadsHeaders s f → Reads (slot_at k s f)
unfolding after_all
reads_slot s f k h = record { header = λ g e. h.header [] tt (k % 64) g (omega arith) e; entry = λ e i. h.entry [] tt (k % 64) e (omega arith) i }

-- ---- a replica whose Parts are found up to an op

pub first_is : (v : SuperValue) (n : ℕ) (r : Replica) → Partly v n r → r.first ≡ first_listed v
unfolding blank
first_is v n r h = ap (λ (x : Replica). x.first) h.is

checkpoint_is : (v : SuperValue) (n : ℕ) (r : Replica) → Partly v n r → r.checkpoint ≡ v.fields.checkpoint
unfolding blank
checkpoint_is v n r h = ap (λ (x : Replica). x.checkpoint) h.is

applied_is : (v : SuperValue) (n : ℕ) (r : Replica) → Partly v n r → r.applied ≡ v.fields.checkpoint
unfolding blank
applied_is v n r h = ap (λ (x : Replica). x.applied) h.is

pub partly_spans : (v : SuperValue) (n : ℕ) (r : Replica) → Value v → Partly v n r → Spans r
partly_spans v n r w h =
    let first = first_is v n r h in
    let checkpoint = checkpoint_is v n r h in
    let reach = w.reach in
    let size = h.size in
    record { reach = omega (arith, first, checkpoint); parts = omega (arith, first, checkpoint) }

-- one more Part
pub partly_part : (v : SuperValue) (n m k : ℕ) (p : Part) (r : Replica) → Value v → Partly v n r → Right v k p → first_listed v ≤ k → k ≤ v.fields.checkpoint + 64
    → (m ≤ n) ⊎ ((m ≡ k) × (k ≤ n + 1)) → Partly v m (with_part k p r)
unfolding with_part
partly_part v n m k p r w h right a b more =
    let q : Replica = with_part k p r in
    let first = first_is v n r h in
    let size = h.size in
    let reach = w.reach in
    let low : r.first ≤ k = omega (arith, first) in
    let high : k < r.first + length r.parts = omega (arith, first) in
    let at : part_at q k ≡ p = with_part_at k p r low high in
    record {
      is = ap (λ (x : Replica). record x { parts = q.parts }) h.is;
      size = length-set r.parts (k - r.first) p ∙ h.size;
      entries = λ j g e. elim (cases_eq j k) [
        | inl same ↦ rw same (right.header g (sym (ap header_of at) ∙ subst (λ i. header_of (part_at q i) ≡ Some g) same e))
        | inr other ↦ h.entries j g (sym (ap header_of (with_part_other k p r j low other)) ∙ e)
      ];
      known = λ j c d e. elim (cases_eq j k) [
        | inl same ↦ rw same (ap has_header at ∙ right.known (omega arith) (omega arith))
        | inr other ↦
            ap has_header (with_part_other k p r j low other) ∙ h.known j c (elim more [ inl few ↦ omega arith | inr last ↦ by_last j k m n other d last ]) e
      ];
    }
  where
    by_last : (j k m n : ℕ) → (j ≡ k → ⊥) → j ≤ m → (m ≡ k) × (k ≤ n + 1) → j ≤ n
    by_last j k m n other d last =
        elim (cases_lt j k) [
          | inl below ↦ omega (arith, last.1)
          | inr from ↦ absurd (other (omega (arith, last.0)))
        ]

-- ---- the words of an opening

-- what such a word leaves
pub record Found {F : Type 0} (v : SuperValue) (n : ℕ) (w : Word F) (s : Setting F) (r : Replica) (f : F) : Type 0 where
  pub partly : Partly v n (w s r f).replica
  pub reads : ReadsHeaders s (after_all s f (w s r f).script)

after_append : {F : Type 0} (s : Setting F) (f : F) (a b : List Effect) → after_all s f (a ++ b) ≡ after_all s (after_all s f a) b
unfolding after_all
after_append s f [] b = refl
after_append s f (e ∷ es) b = after_append s (s.after f e) es b

found_then : {F : Type 0} (v : SuperValue) (n m : ℕ) (a b : Word F) (s : Setting F) (r : Replica) (f : F) → Found v n a s r f
    → ((q : Replica) (g : F) → Partly v n q → ReadsHeaders s g → Found v m b s q g) → Found v m (a ⨾ b) s r f
unfolding ◌⨾◌
found_then v n m a b s r f h k =
    let one = a s r f in
    let two = k one.replica (after_all s f one.script) h.partly h.reads in
    record {
      partly = two.partly;
      reads = subst (ReadsHeaders s) (sym (after_append s f one.script (b s one.replica (after_all s f one.script)).script)) two.reads;
    }

found_quiet : {F : Type 0} (v : SuperValue) (n : ℕ) (s : Setting F) (r : Replica) (f : F) → Partly v n r → ReadsHeaders s f → Found {F = F} v n quiet s r f
unfolding quiet after_all
found_quiet v n s r f h k = record { partly = h; reads = k }

found_change : {F : Type 0} (v : SuperValue) (n : ℕ) (g : Replica → Replica) (s : Setting F) (r : Replica) (f : F) → Partly v n (g r) → ReadsHeaders s f → Found {F = F} v n (change g) s r f
unfolding change after_all
found_change v n g s r f h k = record { partly = h; reads = k }

found_rewrite : {F : Type 0} (v : SuperValue) (n : ℕ) (o : Option Header) (s : Setting F) (r : Replica) (f : F) → ((h : Header) → o ≡ Some h → IsMending (Rewrite h)) → Partly v n r → ReadsHeaders s f
    → Found v n (rewrite o) s r f
unfolding does after_all
found_rewrite v n None s r f is h k = found_quiet v n s r f h k
found_rewrite v n (Some g) s r f is h k = record { partly = h; reads = reads_after s f (Rewrite g) (is g refl) k }

entry_header_is : (x : Slot) (o : Option Whole) (h : Header) → x.entry ≡ o → Reads x → option_map (λ (e : Whole). e.header) o ≡ Some h → IsMending (Rewrite h)
entry_header_is x None h at reads e = absurd cc
entry_header_is x (Some w) h at reads e = let same : w.header ≡ h = cc in subst (λ g. IsMending (Rewrite g)) same (reads.entry w at)

found_mend : {F : Type 0} (v : SuperValue) (n : ℕ) (x : Slot) (t : Verdict) (s : Setting F) (r : Replica) (f : F) → Reads x → Partly v n r → ReadsHeaders s f → Found v n (mend_slot x t) s r f
found_mend v n x verdict.Rewrite s r f reads h k = found_rewrite v n (entry_header x) s r f (λ g e. entry_header_is x x.entry g refl reads e) h k
found_mend v n x verdict.Here s r f reads h k = found_quiet v n s r f h k
found_mend v n x verdict.Lost s r f reads h k = found_quiet v n s r f h k
found_mend v n x verdict.Wanted s r f reads h k = found_quiet v n s r f h k
found_mend v n x verdict.Nothing s r f reads h k = found_quiet v n s r f h k
found_mend v n x verdict.Unknown s r f reads h k = found_quiet v n s r f h k

-- an op of the window, above those that are found
pub found_op : {F : Type 0} (v : SuperValue) (n : ℕ) (s : Setting F) (r : Replica) (f : F) → Value v → v.fields.checkpoint ≤ n → n < v.fields.checkpoint + 64 → Partly v n r → ReadsHeaders s f
    → Found v (n + 1) (recover_op v (n + 1)) s r f
unfolding recover_op reading
found_op v n s r f w a b h k =
    let x = slot_at (n + 1) s f in
    let reads = reads_slot s f (n + 1) k in
    let t = slot_verdict v (n + 1) x in
    let reach = w.reach in
    let all = found_then v n (n + 1) (mend_slot x t) (change (with_part (n + 1) (part_by v (n + 1) x t))) s r f (found_mend v n x t s r f reads h k)
    (λ q g i j. found_change v (n + 1) _ s q g (partly_part v n (n + 1) (n + 1) (part_by v (n + 1) x t) q w i (slot_right v (n + 1) x w reads) (omega arith) (omega arith) (inr (refl, omega arith))) j) in
    record { partly = all.partly; reads = all.reads }

pub found_ops : {F : Type 0} (v : SuperValue) (n count : ℕ) (s : Setting F) (r : Replica) (f : F) → Value v → v.fields.checkpoint ≤ n → n + count ≤ v.fields.checkpoint + 64 → Partly v n r → ReadsHeaders s f
    → Found v (n + count) (each (recover_op v) (range_with_len (n + 1) count)) s r f
unfolding each
found_ops v n zero s r f w a b h k = let same : n ≡ n + 0 = omega arith in subst (λ m. Found v m quiet s r f) same (found_quiet v n s r f h k)
found_ops v n (suc count) s r f w a b h k =
    let same : n + 1 + count ≡ n + suc count = omega arith in
    subst (λ m. Found v m (recover_op v (n + 1) ⨾ each (recover_op v) (range_with_len (n + 1 + 1) count)) s r f) same
    (found_then v (n + 1) (n + 1 + count) (recover_op v (n + 1)) (each (recover_op v) (range_with_len (n + 1 + 1) count)) s r f (found_op v n s r f w a (omega arith) h k)
    (λ q g i j. found_ops v (n + 1) count s q g w (omega arith) (omega arith) i j))

-- ---- ops of the checkpoint

-- of a header of the value's list
abbrev pub IsOld : SuperValue → Header → Type 0
IsOld v h = IsOf v h.op h × (first_listed v ≤ h.op)

pub old_right : (v : SuperValue) (h : Header) (o : Option Whole) → IsOld v h → Right v h.op (old_part h o)
old_right v h None is = right_header v h.op h (part.Lost h) is.0 refl
old_right v h (Some e) is = right_header v h.op h (part.Here h) is.0 refl

pub found_old : {F : Type 0} (v : SuperValue) (h : Header) (s : Setting F) (r : Replica) (f : F) → Value v → IsOld v h → h.op ≤ v.fields.checkpoint → Partly v v.fields.checkpoint r → ReadsHeaders s f
    → Found v v.fields.checkpoint (recover_old h) s r f
unfolding recover_old reading
found_old v h s r f w is a p k =
    let o = entry_of h s f in
    let at = found_change v v.fields.checkpoint (with_part h.op (old_part h o)) s r f
    (partly_part v v.fields.checkpoint v.fields.checkpoint h.op (old_part h o) r w p (old_right v h o is) is.1 (omega arith) (inl (omega arith))) k in
    record { partly = at.partly; reads = at.reads }

pub found_olds : {F : Type 0} (v : SuperValue) (hs : List Header) (s : Setting F) (r : Replica) (f : F) → Value v → ((i : ℕ) (h : Header) → slice_get hs i ≡ Some h → IsOld v h)
    → Partly v v.fields.checkpoint r → ReadsHeaders s f → Found v v.fields.checkpoint (each recover_old (filter (λ h. nat_le h.op v.fields.checkpoint) hs)) s r f
unfolding each
found_olds v [] s r f w are p k = found_quiet v v.fields.checkpoint s r f p k
found_olds {F} v (h ∷ hs) s r f w are p k =
    let rest = filter (λ h. nat_le h.op v.fields.checkpoint) hs in
    let later : (i : ℕ) (g : Header) → slice_get hs i ≡ Some g → IsOld v g = λ i g e. are (suc i) g e in
    elim (nat_le h.op v.fields.checkpoint) as (λ b. nat_le h.op v.fields.checkpoint ≡ b → Found {F = F} v v.fields.checkpoint (each recover_old (cond b (h ∷ rest) rest)) s r f) [
      | true ↦ λ t. found_then v v.fields.checkpoint v.fields.checkpoint (recover_old h) (each recover_old rest) s r f (found_old v h s r f w (are 0 h refl) (leb-true h.op v.fields.checkpoint t) p k)
          (λ q g i j. found_olds v hs s q g w later i j)
      | false ↦ λ t. found_olds v hs s r f w later p k
    ] refl

blank_nothing : (v : SuperValue) (k : ℕ) → part_at (blank v) k ≡ part.Nothing
unfolding blank
blank_nothing v k =
    let r : Replica = blank v in
    let count : ℕ = v.fields.checkpoint + 65 - first_listed v in
    elim (cases_lt k (first_listed v)) [
      | inl before ↦ part_before r k before
      | inr from ↦
          part_within r k from ∙ elim (cases_lt (k - first_listed v) count) [
            | inl within ↦ get_or-replicate count (k - first_listed v) part.Nothing part.Nothing within
            | inr past ↦ get_or_past r.parts (k - first_listed v) part.Nothing (omega (arith, length-replicate count (part.Nothing)))
          ]
    ]

blank_size : (v : SuperValue) → length (blank v).parts ≡ v.fields.checkpoint + 65 - first_listed v
unfolding blank
blank_size v = length-replicate (v.fields.checkpoint + 65 - first_listed v) (part.Nothing)

pub partly_blank : (v : SuperValue) → Partly v v.fields.checkpoint (blank v)
partly_blank v = record {
  is = refl;
  size = blank_size v;
  entries = λ k h e. let no_header : None ≡ Some h = sym (ap header_of (blank_nothing v k)) ∙ e in absurd cc;
  known = λ k a b c. absurd (omega arith);
}

-- ---- Parts that are clouded

clouded_same : (b : Bool) (p : Part) → header_of (clouded_part b p) ≡ header_of p
clouded_same b (part.Here h) = refl
clouded_same b (part.Lost h) = refl
clouded_same b (part.Wanted h) = refl
clouded_same b part.Unknown = refl
clouded_same true part.Nothing = refl
clouded_same false part.Nothing = refl

pub clouded_header : (v : SuperValue) (r : Replica) (k : ℕ) → header_of (clouded_at v r k) ≡ header_of (part_at r k)
clouded_header v r k =
    elim (is_listed v k) as (λ b. header_of (cond b (part_at r k) (clouded_part (stored_above r k) (part_at r k))) ≡ header_of (part_at r k)) [
      | true ↦ refl
      | false ↦ clouded_same (stored_above r k) (part_at r k)
    ]

pub partly_clouded : (v : SuperValue) (n : ℕ) (r : Replica) → Value v → Partly v n r → Partly v n (clouded v r)
unfolding clouded
partly_clouded v n r w h =
    let s = partly_spans v n r w h in
    let q : Replica = remade (clouded_at v r) r in
    record {
      is = ap (λ (x : Replica). record x { parts = q.parts }) h.is;
      size = length-map-range_with_len (clouded_at v r) r.first (length r.parts) ∙ h.size;
      entries = λ k g e.
          let at = remade_known (clouded_at v r) r k s (knows_some q k g e) in
          h.entries k g (sym (clouded_header v r k) ∙ sym (ap header_of at) ∙ e);
      known = λ k a b c.
          let e = h.known k a b c in
          let within = known_within r k s e in
          let parts = s.parts in
          ap has_header (remade_at (clouded_at v r) r k within.0 (omega (arith, within.1))) ∙ ap is_some (clouded_header v r k) ∙ e;
    }

-- ---- all Parts

-- no session has an op
pub empty_numbers : HaveNumbers empty.sessions
unfolding HaveNumbers
empty_numbers = tt

pub roomy_of : (v : SuperValue) (n : ℕ) (ps : List Part) → Value v → Partly v n (record (blank v) { parts = ps }) → v.fields.head ≤ n → Roomy (record (blank v) { parts = ps })
unfolding blank
roomy_of v n ps w h l =
    let q : Replica = record (blank v) { parts = ps } in
    let s = partly_spans v n q w h in
    let commit = w.commit in
    let top = w.head in
    let number = w.number in
    let up = head_reaches q v.fields.head s (λ k a b. h.known k a (omega arith) b) in
    record {
      size = w.size;
      member = w.member;
      order = record { applied = omega arith; commit = commit; known = omega (arith, up); window = head_within q s; views = w.views; number = omega arith };
      first = w.one;
      spans = s;
      ackers = length-replicate (v.fields.checkpoint + 65 - first_listed v) no_replicas ∙ sym h.size;
      statements = length-replicate v.fields.n None;
      entries = record { each = h.entries };
      stated = record { each = λ i g e. absurd (none_stated v.fields.n i g e) };
      checkpoint = w.whole;
      near = omega arith;
      waits = λ m. absurd (m refl);
      numbers = empty_numbers;
    }

-- sound, and with nothing applied above the checkpoint
pub record Opened (r : Replica) : Type 0 where
  pub sound : IsSound r
  pub applied : r.applied ≡ r.checkpoint

forgetting_applied : (r : Replica) → (forgetting r).applied ≡ r.applied
unfolding forgetting
forgetting_applied r = refl

pub opened_forgetting : (v : SuperValue) (n : ℕ) (r : Replica) → Value v → Partly v n r → v.fields.head ≤ n → Opened (forgetting r)
opened_forgetting v n r w h l =
    let roomy = roomy_of v n r.parts w (subst (Partly v n) h.is h) l in
    record {
      sound = sound_forgetting r (subst Roomy (sym h.is) roomy);
      applied = forgetting_applied r ∙ applied_is v n r h ∙ sym (checkpoint_is v n r h) ∙ sym (forgetting_checkpoint r);
    }

opened_then : {F : Type 0} (v : SuperValue) (n : ℕ) (a b : Word F) (s : Setting F) (r : Replica) (f : F) → Found v n a s r f
    → ((q : Replica) (g : F) → Partly v n q → ReadsHeaders s g → Opened (b s q g).replica) → Opened ((a ⨾ b) s r f).replica
unfolding ◌⨾◌
opened_then v n a b s r f h k = k (a s r f).replica (after_all s f (a s r f).script) h.partly h.reads

opened_clouded : {F : Type 0} (v : SuperValue) (n : ℕ) (s : Setting F) (r : Replica) (f : F) → Value v → Partly v n r → v.fields.head ≤ n → Opened ((change {F = F} (clouded v) ⨾ change forgetting) s r f).replica
unfolding ◌⨾◌ change
opened_clouded v n s r f w h l = opened_forgetting v n (clouded v r) w (partly_clouded v n r w h) l

pub recovered : {F : Type 0} (v : SuperValue) (s : Setting F) (f : F) → Value v → ReadsHeaders s f → Opened (recover_parts v s (blank v) f).replica
unfolding recover_parts
recovered v s f w k =
    let c : ℕ = v.fields.checkpoint in
    let window = w.window in
    let old : (i : ℕ) (h : Header) → slice_get v.headers i ≡ Some h → IsOld v h =
    λ i h e.
    let is = w.each i h e in
    let op = is.1.at_op in
    (subst (λ j. IsOf v j h) (sym op) is, omega arith) in
    opened_then v c _ _ s (blank v) f (found_olds v v.headers s (blank v) f w old (partly_blank v) k) (λ q g i j.
    opened_then v (c + (c + 64 - c)) _ _ s q g (found_ops v c (c + 64 - c) s q g w (omega arith) (omega arith) i j) (λ p d m l.
    opened_clouded v (c + (c + 64 - c)) s p d w m (omega arith)))

-- ---- the rest of an opening

pub kept_next : (r : Replica) → IsSound r → Kept r (in_next_view r)
kept_next r h = record {
  sound = sound_view r (r.view + 1) r.statements (omega arith) h.lists.statements (λ i s e.
      let is = h.stated.each i s e in
      let low = is.view in
      record { statement = is.statement; values = is.values; view = omega arith }) h;
  rises = record { view = omega arith; log_view = omega arith; commit = omega arith; applied = omega arith; checkpoint = omega arith };
}

keeps_leave_view : {F : Type 0} → Keeps {F = F} leave_view
keeps_leave_view = keeps_by _ (λ r. keeps_when (leads r) _ (keeps_then _ _ (keeps_change in_next_view kept_next) keeps_save))

-- nothing is applied as a view is left
same_applied : {F : Type 0} (b : Bool) (s : Setting F) (r : Replica) (f : F) → r.applied ≡ r.checkpoint
    → (when b (change in_next_view ⨾ save) s r f).replica.applied ≡ (when b (change in_next_view ⨾ save) s r f).replica.checkpoint
unfolding save change does quiet ◌⨾◌
same_applied true s r f e = e
same_applied false s r f e = e

pub left_applied : {F : Type 0} (s : Setting F) (r : Replica) (f : F) → r.applied ≡ r.checkpoint → (leave_view s r f).replica.applied ≡ (leave_view s r f).replica.checkpoint
unfolding by
left_applied s r f e = same_applied (leads r) s r f e

pub keeps_announce : {F : Type 0} → Keeps {F = F} announce
keeps_announce =
    let itself = keeps_change heard_itself (λ r h. kept_alike r (heard_itself r) refl (record { view = omega arith; log_view = omega arith; commit = omega arith; applied = omega arith; checkpoint = omega arith }) h) in
    let told = keeps_by _ (λ r. keeps_when (nat_le r.view last_view) (says (send_to_all start_view_change)) (keeps_says _)) in
    keeps_by _ (λ r. keeps_when (not (is_started r)) _ (keeps_then _ _ itself told))

sound_on : {F : Type 0} (s : Setting F) (r : Replica) (f : F) → Opened r → IsSound (going_on s r f).replica
unfolding ◌⨾◌ says
sound_on s r f h =
    let q : Replica = (leave_view s r f).replica in
    let k : IsSound q = (keeps_leave_view.every s r f h.sound).kept.sound in
    let e : q.applied ≡ q.checkpoint = left_applied s r f h.applied in
    (kept_then load (apply ⨾ announce) s q _ (kept_load s q _ k e) (keeps_then apply announce keeps_apply keeps_announce)).kept.sound

sound_rest : {F : Type 0} (s : Setting F) (r : Replica) (f : F) → Opened r → IsSound (resuming s r f).replica
unfolding by says
sound_rest {F} s r f h = cond_both (is_spent r) (says start_line) going_on (λ (w : Word F). IsSound (w s r f).replica) (λ t. h.sound) (λ t. sound_on s r f h)

pub openings_are_sound : {F : Type 0} → OpeningsAreSound F
unfolding opening ◌⨾◌ does after_all
openings_are_sound = λ s f v k g.
    let d = s.after f (Mend v) in
    sound_rest s (recover_parts v s (blank v) d).replica _ (recovered v s d (value_is v g) (reads_after s f (Mend v) g k))
