-- What an opening has recovered can be saved: at the head a header is known.
use Rattle.std.proofs.Common.{arith, ◌≡◌, ◌⊎◌, ◌≤◌, ◌<◌, ◌+◌, ◌-◌, ◌^◌, inl, inr, refl, sym, ap, ◌∙◌, subst, ℕ, zero, suc, true, false, cond, List, [], ◌∷◌, length, min, Option, Some, None, is_some}
use Rattle.std.specs.Prelude.{filter, slice_get, nat_lt, nat_le, nat_eq, ◌&&◌, ◌||◌}
use Rattle.std.specs.List.{range_with_len}
use Rattle.std.proofs.lemmas.Bool.{and_parts, or_cases, cases_lt, cases_eq, ltb-true, leb-true, leb-false, eqb-true}
use Rattle.vr_base.specs.Groups.{is_size}
use Rattle.vr_base.specs.Bytes.{is_zeros}
use Rattle.vr_header.specs.declared.header.Header.{Header}
use Rattle.vr_header.specs.declared.part.Part.{Part}
use Rattle.vr_header.specs.Made.{Whole}
use Rattle.vr_msg.specs.Choice.{ops}
use Rattle.vr_header.specs.Parts.{has_header}
use Rattle.vr_recover.specs.declared.readings.Verdict.{Verdict}
use Rattle.vr_recover.specs.declared.readings.Verdict.TheVariants as verdict
use Rattle.vr_super.specs.Copies.{SuperValue, IsGood, good_fields, good_member, good_window, good_root, good_count}
use Rattle.vr_rules.specs.Replica.{Replica, head, forgetting, with_part, knows}
use Rattle.vr_rules.specs.Steps.{Setting, ◌⨾◌, quiet, change, does, reading, each, after_all}
use Rattle.vr_rules.specs.Words.{entry_of}
use Rattle.vr_rules.specs.Opening.{Slot, blank, old_part, recover_old, recover_op, old_headers, slot_at, slot_verdict, part_by, mend_slot, rewrite, entry_header, clouded, clouded_at, recover_parts}
use Rattle.vr_rules.specs.Sound.{IsSavable}
use Rattle.vr_rules.specs.Laws.{ReadsHeaders}
use Rattle.vr_rules.proofs.Heads.{known_within, head_from, head_knows, head_reaches, with_part_at, with_part_other, remade_at}
use Rattle.vr_rules.proofs.Taking.{log_reaches}
use Rattle.vr_rules.specs.Found.{IsOf, Partly, Lists}
use Rattle.vr_rules.proofs.Slots.{Value}
use Rattle.vr_rules.proofs.Openings.{partly_spans, first_is, found_op, found_old, found_olds, found_ops, partly_blank, partly_clouded, clouded_header, IsOld}
use Rattle.vr_rules.proofs.SavesParts.{Topped, topped_forgetting}

pub known_old : (h : Header) (o : Option Whole) → has_header (old_part h o) ≡ true
known_old h None = refl
known_old h (Some e) = refl

-- a known op stays so as the Part of another op, or a known one, is set
pub set_keeps : (c k : ℕ) (p : Part) (r : Replica) → r.first ≤ k → k < r.first + length r.parts → (c ≡ k → has_header p ≡ true) → (knows r c ≡ true) ⊎ (c ≡ k) → knows (with_part k p r) c ≡ true
set_keeps c k p r a b is e =
    elim (cases_eq c k) [
      | inl same ↦ rw same (ap has_header (with_part_at k p r a b) ∙ is same)
      | inr other ↦ elim e [
        | inl known ↦ ap has_header (with_part_other k p r c a other) ∙ known
        | inr same ↦ absurd (other same)
      ]
    ]

old_known : {F : Type 0} (v : SuperValue) (h : Header) (s : Setting F) (r : Replica) (f : F) → Value v → IsOld v h → h.op ≤ v.fields.checkpoint → Partly v v.fields.checkpoint r
    → (knows r v.fields.checkpoint ≡ true) ⊎ (v.fields.checkpoint ≡ h.op) → knows (recover_old h s r f).replica v.fields.checkpoint ≡ true
unfolding recover_old reading change
old_known v h s r f w is a p e =
    let first = first_is v v.fields.checkpoint r p in
    let size = p.size in
    let reach = w.reach in
    let low = is.1 in
    set_keeps v.fields.checkpoint h.op (old_part h (entry_of h s f)) r (omega (arith, first)) (omega (arith, first)) (λ _. known_old h (entry_of h s f)) e

this_or_later : {F : Type 0} (v : SuperValue) (h : Header) (hs : List Header) (s : Setting F) (r : Replica) (f : F) → Value v → IsOld v h → h.op ≤ v.fields.checkpoint → Partly v v.fields.checkpoint r
    → (knows r v.fields.checkpoint ≡ true) ⊎ Lists v.fields.checkpoint (h ∷ hs) → (knows (recover_old h s r f).replica v.fields.checkpoint ≡ true) ⊎ Lists v.fields.checkpoint hs
this_or_later v h hs s r f w is a p (inl e) = inl (old_known v h s r f w is a p (inl e))
this_or_later v h hs s r f w is a p (inr (zero, g, at, op)) = let same : h ≡ g = cc in inl (old_known v h s r f w is a p (inr (sym op ∙ sym (ap (λ (x : Header). x.op) same))))
this_or_later v h hs s r f w is a p (inr (suc i, g, at, op)) = inr (i, g, at, op)

pub only_later : (c : ℕ) (h : Header) (hs : List Header) (r : Replica) → c < h.op → (knows r c ≡ true) ⊎ Lists c (h ∷ hs) → (knows r c ≡ true) ⊎ Lists c hs
only_later c h hs r l (inl e) = inl e
only_later c h hs r l (inr (zero, g, at, op)) = let same : h ≡ g = cc in let o : h.op ≡ g.op = ap (λ (x : Header). x.op) same in absurd (omega arith)
only_later c h hs r l (inr (suc i, g, at, op)) = inr (i, g, at, op)

olds_known : {F : Type 0} (v : SuperValue) (hs : List Header) (s : Setting F) (r : Replica) (f : F) → Value v → ((i : ℕ) (h : Header) → slice_get hs i ≡ Some h → IsOld v h)
    → Partly v v.fields.checkpoint r → ReadsHeaders s f → (knows r v.fields.checkpoint ≡ true) ⊎ Lists v.fields.checkpoint hs
    → knows (each recover_old (filter (λ h. nat_le h.op v.fields.checkpoint) hs) s r f).replica v.fields.checkpoint ≡ true
unfolding each quiet ◌⨾◌
olds_known v [] s r f w are p k (inl e) = e
olds_known v [] s r f w are p k (inr l) = let no : None ≡ Some l.1 = l.2 in absurd cc
olds_known {F} v (h ∷ hs) s r f w are p k e =
    let c : ℕ = v.fields.checkpoint in
    let rest = filter (λ h. nat_le h.op v.fields.checkpoint) hs in
    let later : (i : ℕ) (g : Header) → slice_get hs i ≡ Some g → IsOld v g = λ i g e. are (suc i) g e in
    elim (nat_le h.op c) as (λ b. nat_le h.op c ≡ b → knows (each {F = F} recover_old (cond b (h ∷ rest) rest) s r f).replica c ≡ true) [
      | true ↦ λ t.
          let a = leb-true h.op c t in
          let old = are 0 h refl in
          let found = found_old v h s r f w old a p k in
          let x = recover_old h s r f in
          olds_known v hs s x.replica (after_all s f x.script) w later found.partly found.reads (this_or_later v h hs s r f w old a p e)
      | false ↦ λ t. olds_known v hs s r f w later p k (only_later c h hs r (leb-false h.op c t) e)
    ] refl

-- ---- the ops of the window

rewrite_same : {F : Type 0} (o : Option Header) (s : Setting F) (r : Replica) (f : F) → (rewrite o s r f).replica ≡ r
unfolding does quiet
rewrite_same None s r f = refl
rewrite_same (Some h) s r f = refl

mend_same : {F : Type 0} (x : Slot) (t : Verdict) (s : Setting F) (r : Replica) (f : F) → (mend_slot x t s r f).replica ≡ r
unfolding quiet
mend_same x verdict.Rewrite s r f = rewrite_same (entry_header x) s r f
mend_same x _ s r f = refl

op_known : {F : Type 0} (v : SuperValue) (n : ℕ) (s : Setting F) (r : Replica) (f : F) → Value v → v.fields.checkpoint ≤ n → n < v.fields.checkpoint + 64 → Partly v n r
    → knows r v.fields.checkpoint ≡ true → knows (recover_op v (n + 1) s r f).replica v.fields.checkpoint ≡ true
unfolding recover_op reading change ◌⨾◌
op_known v n s r f w a b p e =
    let x = slot_at (n + 1) s f in
    let t = slot_verdict v (n + 1) x in
    let first = first_is v n r p in
    let reach = w.reach in
    let size = p.size in
    rw (mend_same x t s r f) (set_keeps v.fields.checkpoint (n + 1) (part_by v (n + 1) x t) r (omega (arith, first)) (omega (arith, first)) (λ q. absurd (omega (arith, q))) (inl e))

ops_known : {F : Type 0} (v : SuperValue) (n count : ℕ) (s : Setting F) (r : Replica) (f : F) → Value v → v.fields.checkpoint ≤ n → n + count ≤ v.fields.checkpoint + 64 → Partly v n r → ReadsHeaders s f
    → knows r v.fields.checkpoint ≡ true → knows (each (recover_op v) (range_with_len (n + 1) count) s r f).replica v.fields.checkpoint ≡ true
unfolding each quiet ◌⨾◌
ops_known v n zero s r f w a b p k e = e
ops_known v n (suc count) s r f w a b p k e =
    let found = found_op v n s r f w a (omega arith) p k in
    let x = recover_op v (n + 1) s r f in
    ops_known v (n + 1) count s x.replica (after_all s f x.script) w (omega arith) (omega arith) found.partly found.reads (op_known v n s r f w a (omega arith) p e)

pub clouded_known : (v : SuperValue) (n k : ℕ) (r : Replica) → Value v → Partly v n r → knows r k ≡ true → knows (clouded v r) k ≡ true
unfolding clouded
clouded_known v n k r w p e =
    let sp = partly_spans v n r w p in
    let within = known_within r k sp e in
    let parts = sp.parts in
    ap has_header (remade_at (clouded_at v r) r k within.0 (omega (arith, within.1))) ∙ ap is_some (clouded_header v r k) ∙ e

-- ---- at the head

-- the list has the header of the value's head
pub lists_head : (v : SuperValue) → Value v → 0 < length v.headers → Lists v.fields.head v.headers
lists_head v w some =
    let there = log_reaches v.headers (length v.headers - 1) (omega arith) in
    let is = (w.each (length v.headers - 1) there.0 there.1).1 in
    let first = w.first in
    (length v.headers - 1, there.0, there.1, omega (arith, is.at_op))

blank_checkpoint : (v : SuperValue) → (blank v).checkpoint ≡ v.fields.checkpoint
unfolding blank
blank_checkpoint v = refl

pub found_topped : (v : SuperValue) (n : ℕ) (r : Replica) → Value v → Partly v n r → v.fields.head ≤ n → (v.fields.head ≡ v.fields.checkpoint → 0 < v.fields.head → knows r v.fields.checkpoint ≡ true) → Topped r
found_topped v n r w p l last some =
    let s = partly_spans v n r w p in
    let c : r.checkpoint ≡ v.fields.checkpoint = ap (λ (x : Replica). x.checkpoint) p.is ∙ blank_checkpoint v in
    let up : v.fields.head ≤ head r = head_reaches r v.fields.head s (λ k a b. p.known k (omega (arith, c)) (omega arith) b) in
    let from = head_from r in
    let low = w.commit in
    let below = w.head in
    elim (cases_lt r.checkpoint (head r)) [
      | inl above ↦ head_knows r (head r) s above (omega arith)
      | inr at ↦
          let same : v.fields.checkpoint ≡ head r = omega (arith, c) in
          subst (λ k. knows r k ≡ true) same (last (omega (arith, c)) (omega (arith, c)))
    ]

-- ---- what is recovered

pub savable_found : (v : SuperValue) (ps : List Part) → IsGood v → Topped (record (blank v) { parts = ps }) → IsSavable (record (blank v) { parts = ps })
unfolding blank good_fields
savable_found v ps g top =
    let k = v.fields in
    let n : ℕ = length v.headers in
    let a = and_parts (good_member k) (good_window k && (good_root k && good_count k n)) g.fields in
    let b = and_parts (good_window k) (good_root k && good_count k n) a.1 in
    let c = and_parts (good_root k) (good_count k n) b.1 in
    let member = and_parts (nat_lt k.replica k.n) (nat_le k.log_view k.view && nat_lt k.log_view (2 ^ 32 - 1)) (and_parts (is_size k.version k.n) _ a.0).1 in
    let root = and_parts (nat_lt k.root_address 128) (nat_lt 0 k.checkpoint || (nat_eq k.root_address 0 && is_zeros k.root_name.0)) c.0 in
    record {
      cluster = g.numbers.cluster;
      view = g.numbers.view;
      log_view = ltb-true v.fields.log_view (2 ^ 32 - 1) (and_parts (nat_le k.log_view k.view) (nat_lt k.log_view (2 ^ 32 - 1)) member.1).1;
      address = ltb-true v.fields.root_address 128 root.0;
      name = (g.numbers.root_name, g.numbers.root_name_bytes);
      none = λ e. elim (or_cases (nat_lt 0 v.fields.checkpoint) (nat_eq v.fields.root_address 0 && is_zeros v.fields.root_name.0) root.1) [
        | inl some ↦ let l : 0 < v.fields.checkpoint = ltb-true 0 v.fields.checkpoint some in let none : v.fields.checkpoint ≡ 0 = e in absurd (omega (arith, l, none))
        | inr rest ↦ let z = and_parts (nat_eq v.fields.root_address 0) (is_zeros v.fields.root_name.0) rest in (eqb-true v.fields.root_address 0 z.0, z.1)
      ];
      saved = g;
      top = top;
    }

pub savable_forgetting : (r : Replica) → IsSavable r → Topped (forgetting r) → IsSavable (forgetting r)
unfolding forgetting
savable_forgetting r v top = record { cluster = v.cluster; view = v.view; log_view = v.log_view; address = v.address; name = v.name; none = v.none; saved = v.saved; top = top }

pub list_size : (v : SuperValue) → IsGood v → 0 < v.fields.head → 0 < length v.headers
unfolding good_fields
list_size v g some =
    let k = v.fields in
    let n : ℕ = length v.headers in
    let a = and_parts (good_member k) (good_window k && (good_root k && good_count k n)) g.fields in
    let b = and_parts (good_window k) (good_root k && good_count k n) a.1 in
    let c = and_parts (good_root k) (good_count k n) b.1 in
    let d = and_parts (nat_le (k.head - k.checkpoint) n && nat_le (min k.head 1) n) (nat_le n k.head && nat_le n 64) c.1 in
    let least = leb-true (min k.head 1) n (and_parts (nat_le (k.head - k.checkpoint) n) (nat_le (min k.head 1) n) d.0).1 in
    omega arith

pub savable_recovered : {F : Type 0} (v : SuperValue) (s : Setting F) (f : F) → IsGood v → Value v → ReadsHeaders s f → IsSavable (recover_parts v s (blank v) f).replica
unfolding recover_parts ◌⨾◌ change
savable_recovered v s f g w k =
    let c : ℕ = v.fields.checkpoint in
    let window = w.window in
    let old : (i : ℕ) (h : Header) → slice_get v.headers i ≡ Some h → IsOld v h =
    λ i h e. let is = w.each i h e in let op = is.1.at_op in (subst (λ j. IsOf v j h) (sym op) is, omega arith) in
    let a = each recover_old (old_headers v) s (blank v) f in
    let d = after_all s f a.script in
    let one = found_olds v v.headers s (blank v) f w old (partly_blank v) k in
    let b = each (recover_op v) (ops c (c + 64)) s a.replica d in
    let two = found_ops v c (c + 64 - c) s a.replica d w (omega arith) (omega arith) one.partly one.reads in
    let q : Replica = clouded v b.replica in
    let p = partly_clouded v (c + (c + 64 - c)) b.replica w two.partly in
    let last : v.fields.head ≡ c → 0 < v.fields.head → knows q c ≡ true = λ same some.
    clouded_known v (c + (c + 64 - c)) c b.replica w two.partly
    (ops_known v c (c + 64 - c) s a.replica d w (omega arith) (omega arith) one.partly one.reads
    (olds_known v v.headers s (blank v) f w old (partly_blank v) k (inr (subst (λ j. Lists j v.headers) same (lists_head v w (list_size v g some)))))) in
    let top = found_topped v (c + (c + 64 - c)) q w p (omega arith) last in
    let savable : IsSavable q = subst IsSavable (sym p.is) (savable_found v q.parts g (subst Topped p.is top)) in
    savable_forgetting q savable (topped_forgetting q (partly_spans v (c + (c + 64 - c)) q w p) top)
