-- What an opening finds is sound, and is held.
use Rattle.std.proofs.Common.{ℕ, suc, ◌+◌, ◌-◌, ◌%◌, ◌≤◌, ◌<◌, ◌≡◌, ◌≢◌, inl, inr, arith, refl, sym, ap, ◌∙◌, subst, Bool, true, false, cond, List, [], ◌∷◌, length, drop, get_or, Some, None, length-set, get_or-set_same}
use Rattle.std.specs.List.{range_with_len}
use Rattle.std.proofs.lemmas.Bool.{cases_lt, le-leb, lt-leb}
use Rattle.std.proofs.lemmas.List.{get_or_default, get_or-drop, length-drop, length-replicate}
use Rattle.std.proofs.lemmas.List.Folds.{list_any-from_Any}
use Rattle.vr_header.specs.declared.header.Header.{Header}
use Rattle.vr_header.specs.declared.part.Part.{Part}
use Rattle.vr_header.specs.declared.part.Part.TheVariants as part
use Rattle.vr_header.specs.Parts.{header_of}
use Rattle.vr_super.specs.Copies.{IsGood, SuperValue}
use Rattle.vr_rings.specs.Slots.{slot_of}
use Rattle.vr_lie.specs.Faults.{held_at}
use Rattle.vr_rules.specs.Replica.{Replica, forgetting, part_at}
use Rattle.vr_rules.specs.Steps.{Mend, ◌⨾◌, change, does, each, after_all}
use Rattle.vr_rules.specs.Opening.{blank, clouded, clouded_at, clouded_part, first_listed, old_headers, recover_old, recover_op, recover_parts, slot_at, stored_above, was_stored}
use Rattle.vr_world.specs.Lying.{Lying, lying}
use Rattle.vr_world.specs.Group.{AreSound, IsFoundAbove, IsUndenied, Member, begins, carried_out, ends, found, keeps_all, keeps_found, kept_at, mended, once_mended, recovered, with_kept}
use Rattle.vr_rules.proofs.Heads.{Spans, forgetting_at, forgetting_checkpoint, forgetting_spans, head_within, known_within, knows_some, part_within, remade_at, remade_spans}
use Rattle.vr_rules.proofs.Slots.{Value, value_is}
use Rattle.law_4_disks.specs.Beside.{AreMade, HoldsEntry, IsCalm, IsHeld, IsOff, IsOn, MayGo}
use Rattle.vr_super.proofs.Keeping.{opens_on}
use Rattle.law_4_disks.specs.Laws.{OpeningsFind}
use Rattle.law_4_disks.proofs.Calls.{mend_are}
use Rattle.law_4_disks.proofs.Effects.{mend_opens, slot_less, written_held, set_other}
use Rattle.law_4_disks.proofs.Recovering.{Parted, Passes, Stood, passes_change, passes_olds, passes_ops, passes_then}
use Rattle.law_4_disks.proofs.Verdicts.{Of, of_above, of_here_op, of_named, undenied, undenied_clouded}

-- ---- all Parts

-- the Parts of the window, clouded, with the old ones forgotten
pub record Final (v : SuperValue) (d : Lying) (r : Replica) : Type 0 where
  pub before : Replica
  pub parted : Parted v d (v.fields.checkpoint + 64) before
  pub is : r ≡ forgetting (clouded v before)

passes_all : (v : SuperValue) (d : Lying) → Value v → Passes (Parted v d v.fields.checkpoint) (Final v d) v d v.fields.checkpoint (v.fields.checkpoint + 64) (recover_parts v)
unfolding recover_parts
passes_all v d w =
    let c = v.fields.checkpoint in
    let P = Parted v d c in
    let end : c + (c + 64 - c) ≡ c + 64 = omega arith in
    let R : Replica → Type 0 = λ r. (q : Replica) × Parted v d (c + 64) q × (r ≡ clouded v q) in
    let ops : Passes P (Parted v d (c + 64)) v d c (c + 64) (each (recover_op v) (range_with_len (c + 1) (c + 64 - c))) =
    subst (λ (m : ℕ). Passes P (Parted v d m) v d c m (each (recover_op v) (range_with_len (c + 1) (c + 64 - c)))) end (passes_ops v d c (c + 64 - c) w (omega arith) (omega arith)) in
    let last : Passes (Parted v d (c + 64)) (Final v d) v d (c + 64) (c + 64) (change (clouded v) ⨾ change forgetting) =
    passes_then (Parted v d (c + 64)) R (Final v d) v d (c + 64) (c + 64) (c + 64) (change (clouded v)) (change forgetting) (passes_change (Parted v d (c + 64)) R v d (c + 64) (clouded v) (λ q h. (q, h, refl)))
    (passes_change R (Final v d) v d (c + 64) forgetting (λ r h. record { before = h.0; parted = h.1; is = ap forgetting h.2 })) in
    passes_then P P (Final v d) v d c c (c + 64) (each recover_old (old_headers v)) (each (recover_op v) (range_with_len (c + 1) (c + 64 - c)) ⨾ (change (clouded v) ⨾ change forgetting)) (passes_olds v d (old_headers v))
    (passes_then P (Parted v d (c + 64)) (Final v d) v d c (c + 64) (c + 64) (each (recover_op v) (range_with_len (c + 1) (c + 64 - c))) (change (clouded v) ⨾ change forgetting) ops last)

parted_blank : (v : SuperValue) (d : Lying) → Parted v d v.fields.checkpoint (blank v)
unfolding blank
parted_blank v d = record { shaped = record { first = refl; size = length-replicate (v.fields.checkpoint + 65 - first_listed v) (part.Nothing); checkpoint = refl }; parts = λ k a b. absurd (omega arith) }

-- after the mending
abbrev behind : SuperValue → Lying → Lying
behind v d = lying.after d (Mend v)

stood_first : (v : SuperValue) (d : Lying) (m : Member) → IsGood v → IsOff d m v → Stood v (behind v d) v.fields.checkpoint (behind v d) (ends (Mend v) (begins (Mend v) m))
stood_first v d m good o = record { on = mend_opens v d m o (mend_are v d.face good); last = refl; left = λ k a b. refl; holds = λ k h a b e. absurd (omega arith) }

pub record IsMended (v : SuperValue) (d : Lying) (m : Member) : Type 0 where
  pub final : Final v (behind v d) (recovered v d)
  pub stood : Stood v (behind v d) (v.fields.checkpoint + 64) (after_all lying d (mended v d).script) (carried_out (mended v d).script m)
  pub go : MayGo (mended v d).script d v

pub is_mended : (v : SuperValue) (d : Lying) (m : Member) → Value v → IsGood v → IsOff d m v → IsMended v d m
unfolding ◌⨾◌ does after_all carried_out
is_mended v d m w good o =
    let x = behind v d in
    let one = passes_all v x w (blank v) x (ends (Mend v) (begins (Mend v) m)) (parted_blank v x) (stood_first v d m good o) in
    record { final = one.found; stood = one.stood; go = (record { fit = refl; calls = mend_are v d.face good }, one.go) }

-- ---- what is known of each op

spans_of : (v : SuperValue) (d : Lying) (n : ℕ) (q : Replica) → Value v → Parted v d n q → Spans q
spans_of v d n q w p =
    let first = p.shaped.first in
    let size = p.shaped.size in
    let checkpoint = p.shaped.checkpoint in
    let reach = w.reach in
    record { reach = omega (arith, first, checkpoint); parts = omega (arith, first, size, checkpoint) }

clouded_spans : (v : SuperValue) (q : Replica) → Spans q → Spans (clouded v q)
unfolding clouded
clouded_spans v q s = remade_spans (clouded_at v q) q s

clouded_is : (v : SuperValue) (q : Replica) (k : ℕ) → q.first ≤ k → k < q.first + length q.parts → part_at (clouded v q) k ≡ clouded_at v q k
unfolding clouded
clouded_is v q k a b = remade_at (clouded_at v q) q k a b

clouded_checkpoint : (v : SuperValue) (q : Replica) → (clouded v q).checkpoint ≡ q.checkpoint
unfolding clouded
clouded_checkpoint v q = refl

clouded_first : (v : SuperValue) (q : Replica) → (clouded v q).first ≡ q.first
unfolding clouded
clouded_first v q = refl

-- what it says of its op: as the slot, and above the head of the value clouded
found_part : (v : SuperValue) (d : Lying) (r : Replica) (w : Value v) (f : Final v d r) (k : ℕ) → v.fields.checkpoint < k → k ≤ v.fields.checkpoint + 64 → part_at r k ≡ clouded_at v f.before k
found_part v d r w f k a b =
    let q = f.before in
    let s = spans_of v d (v.fields.checkpoint + 64) q w f.parted in
    let t = clouded_spans v q s in
    let top = head_within (clouded v q) t in
    let first = f.parted.shaped.first in
    let checkpoint = f.parted.shaped.checkpoint in
    let c = clouded_checkpoint v q in
    let reach = s.reach in
    let parts = s.parts in
    let e = clouded_first v q in
    ap (λ (r : Replica). part_at r k) f.is ∙ (forgetting_at (clouded v q) k (omega (arith, top, c, checkpoint, e, reach, a)) ∙ clouded_is v q k (omega (arith, reach, checkpoint)) (omega (arith, parts, checkpoint)))

found_named : (v : SuperValue) (d : Lying) (r : Replica) (w : Value v) (f : Final v d r) (k : ℕ) → v.fields.checkpoint < k → k ≤ v.fields.head → part_at r k ≡ Of v k (slot_at k lying d)
found_named v d r w f k a b =
    let window = w.window in
    let at = found_part v d r w f k a (omega arith) in
    at ∙ (ap (λ (t : Bool). cond t (part_at f.before k) (clouded_part (stored_above f.before k) (part_at f.before k))) (le-leb k v.fields.head b) ∙ f.parted.parts k a (omega arith))

found_above : (v : SuperValue) (d : Lying) (r : Replica) (w : Value v) (f : Final v d r) (k : ℕ) → v.fields.head < k → k ≤ v.fields.checkpoint + 64 → part_at r k ≡ clouded_part (stored_above f.before k) (Of v k (slot_at k lying d))
found_above v d r w f k a b =
    let commit = w.commit in
    let head = w.head in
    let at = found_part v d r w f k (omega arith) b in
    at ∙ (ap (λ (t : Bool). cond t (part_at f.before k) (clouded_part (stored_above f.before k) (part_at f.before k))) (lt-leb k v.fields.head a) ∙ ap (clouded_part (stored_above f.before k)) (f.parted.parts k (omega arith) b))

-- ---- it is sound

above_clouded : (made : List Header) (view k : ℕ) (b : Bool) (p : Part) → IsFoundAbove made view k p → IsFoundAbove made view k (clouded_part b p)
above_clouded made view k b (part.Here h) i = i
above_clouded made view k b (part.Lost h) i = i
above_clouded made view k b (part.Wanted h) i = absurd i
above_clouded made view k b part.Unknown i = tt
above_clouded made view k true part.Nothing i = tt
above_clouded made view k false part.Nothing i = tt

stored_clouded : (b : Bool) (p : Part) → was_stored (clouded_part b p) ≡ true → was_stored p ≡ true
stored_clouded b (part.Here h) e = refl
stored_clouded b (part.Lost h) e = refl
stored_clouded b (part.Wanted h) e = absurd cc
stored_clouded b part.Unknown e = absurd cc
stored_clouded true part.Nothing e = absurd cc
stored_clouded false part.Nothing e = absurd cc

clouded_not : (b : Bool) (p : Part) → b ≡ true → clouded_part b p ≢ part.Nothing
clouded_not true (part.Here h) t e = cc
clouded_not true (part.Lost h) t e = cc
clouded_not true (part.Wanted h) t e = cc
clouded_not true part.Unknown t e = cc
clouded_not true part.Nothing t e = cc
clouded_not false p t e = let bad : false ≡ true = t in cc

stored_there : (q : Replica) (k j : ℕ) → Spans q → q.first ≤ k + 1 → k < j → j < q.first + length q.parts → was_stored (part_at q j) ≡ true → stored_above q k ≡ true
stored_there q k j s first a b e =
    let xs = drop (k + 1 - q.first) q.parts in
    let i = j - (k + 1) in
    let n = length-drop (k + 1 - q.first) q.parts in
    let less : i < length xs = omega (arith, n) in
    let place : k + 1 - q.first + i ≡ j - q.first = omega arith in
    let at : get_or xs i part.Nothing ≡ part_at q j = get_or-drop (k + 1 - q.first) q.parts i part.Nothing ∙ (ap (λ (i : ℕ). get_or q.parts i part.Nothing) place ∙ sym (part_within q j (omega arith))) in
    list_any-from_Any was_stored xs (i, part_at q j, less, get_or_default xs i (part_at q j) part.Nothing less ∙ at, e)

pub sound : (v : SuperValue) (d : Lying) (r : Replica) (m : Member) (made : List Header) → Value v → d.version ≡ v.fields.version → Final v d r → IsCalm v.fields.mode d → IsHeld d m → AreMade made v d → m.last.fields.cluster ≡ v.fields.cluster → AreSound v (kept_at m) made r
sound v d r m made w file f calm held are home =
    let commit = w.commit in
    let head = w.head in
    let window = w.window in
    let q = f.before in
    let s = spans_of v d (v.fields.checkpoint + 64) q w f.parted in
    let first = f.parted.shaped.first in
    let checkpoint = f.parted.shaped.checkpoint in
    let reach = s.reach in
    let parts = s.parts in
    record {
      named = λ k a b. ap header_of (found_named v d r w f k a b) ∙ of_named v k (slot_at k lying d) b;
      above = λ k a b. subst (IsFoundAbove made v.fields.log_view k) (sym (found_above v d r w f k a b))
          (above_clouded made v.fields.log_view k (stored_above q k) (Of v k (slot_at k lying d)) (of_above v k (slot_at k lying d) made a (λ h e t. are.header k h a b e t) (λ e i t. are.entry k e a b i t)));
      below = λ k j a b c e.
          let at = found_above v d r w f j (omega arith) c in
          let was : was_stored (Of v j (slot_at j lying d)) ≡ true = stored_clouded (stored_above q j) (Of v j (slot_at j lying d)) (ap was_stored (sym at) ∙ e) in
          let there : was_stored (part_at q j) ≡ true = ap was_stored (f.parted.parts j (omega arith) c) ∙ was in
          let stored = stored_there q k j s (omega (arith, reach, checkpoint)) b (omega (arith, parts, checkpoint)) there in
          λ n. clouded_not (stored_above q k) (Of v k (slot_at k lying d)) stored (sym (found_above v d r w f k a (omega arith)) ∙ n);
      counted = λ k h a b e c.
          let less : k % 64 < 64 = omega arith in
          let there : HoldsEntry d.version v.fields.cluster h (held_at d.held (k % 64)) = subst (λ (n : ℕ). HoldsEntry d.version n h (held_at d.held (k % 64))) home (held.each (k % 64) h less e) in
          let one = undenied v k d h w file calm.face (calm.stand.each (k % 64) less) there c in
          elim (cases_lt v.fields.head k) [
            | inl up ↦ subst IsUndenied (sym (found_above v d r w f k up b)) (undenied_clouded (stored_above q k) (Of v k (slot_at k lying d)) one)
            | inr low ↦ subst IsUndenied (sym (found_named v d r w f k a low)) one
          ];
    }

-- ---- what is found stored is held

part_cases : (b : Bool) (p : Part) (h : Header) → clouded_part b p ≡ part.Here h → p ≡ part.Here h
part_cases b (part.Here g) h e = e
part_cases b (part.Lost g) h e = absurd cc
part_cases b (part.Wanted g) h e = absurd cc
part_cases b part.Unknown h e = absurd cc
part_cases true part.Nothing h e = absurd cc
part_cases false part.Nothing h e = absurd cc

found_here : (v : SuperValue) (d : Lying) (r : Replica) (w : Value v) (f : Final v d r) (k : ℕ) (h : Header) → v.fields.checkpoint < k → k ≤ v.fields.checkpoint + 64 → part_at r k ≡ part.Here h → Of v k (slot_at k lying d) ≡ part.Here h
found_here v d r w f k h a b e =
    elim (cases_lt v.fields.head k) [
      | inl up ↦ part_cases (stored_above f.before k) (Of v k (slot_at k lying d)) h (sym (found_above v d r w f k up b) ∙ e)
      | inr low ↦ sym (found_named v d r w f k a low) ∙ e
    ]

with_kept_held : (d : Lying) (m : Member) (h : Header) → IsHeld d m → HoldsEntry d.version m.last.fields.cluster h (held_at d.held (slot_of h)) → IsHeld d (with_kept h.op (Some h) m)
with_kept_held d m h i y =
    let at = slot_of h in
    let q : Member = with_kept h.op (Some h) m in
    let less : at < length m.kept = let n = i.count in let l = slot_less h in omega (arith, n, l) in
    written_held d d m q at refl (length-set m.kept at (Some h) ∙ i.count) refl (λ slot b c. set_other m.kept at (Some h) slot c) (λ slot b c. refl)
    (λ g e. let one : h ≡ g = let both : Some h ≡ Some g = sym (get_or-set_same m.kept at (Some h) None less) ∙ e in cc in subst (λ (g : Header). HoldsEntry d.version m.last.fields.cluster g (held_at d.held at)) one y) i

on_kept : (d : Lying) (m : Member) (h : Header) → IsOn d m → HoldsEntry d.version m.last.fields.cluster h (held_at d.held (slot_of h)) → IsOn d (with_kept h.op (Some h) m)
on_kept d m h o y = record { calm = o.calm; held = with_kept_held d m h o.held y; value = o.value; file = o.file; under = o.under }

on_found : (d : Lying) (m : Member) (p : Part) → IsOn d m → ((h : Header) → p ≡ part.Here h → HoldsEntry d.version m.last.fields.cluster h (held_at d.held (slot_of h))) → IsOn d (keeps_found p m)
on_found d m (part.Here h) o y = on_kept d m h o (y h refl)
on_found d m (part.Lost h) o y = o
on_found d m (part.Wanted h) o y = o
on_found d m part.Unknown o y = o
on_found d m part.Nothing o y = o

-- what is found changes no value
pub kept_last : (p : Part) (m : Member) → (keeps_found p m).last ≡ m.last
kept_last (part.Here h) m = refl
kept_last (part.Lost h) m = refl
kept_last (part.Wanted h) m = refl
kept_last part.Unknown m = refl
kept_last part.Nothing m = refl

on_all : (home : ℕ) (d : Lying) (ps : List Part) (m : Member) → home ≡ m.last.fields.cluster → IsOn d m → ((i : ℕ) (h : Header) → get_or ps i part.Nothing ≡ part.Here h → HoldsEntry d.version home h (held_at d.held (slot_of h))) → IsOn d (keeps_all ps m)
unfolding keeps_all
on_all home d [] m own o y = o
on_all home d (p ∷ ps) m own o y =
    on_all home d ps (keeps_found p m) (own ∙ ap (λ (v : SuperValue). v.fields.cluster) (sym (kept_last p m))) (on_found d m p o (λ h e. subst (λ (n : ℕ). HoldsEntry d.version n h (held_at d.held (slot_of h))) own (y 0 h e))) (λ i h e. y (suc i) h e)

found_spans : (v : SuperValue) (d : Lying) (r : Replica) (w : Value v) (f : Final v d r) → Spans r
found_spans v d r w f = subst Spans (sym f.is) (forgetting_spans (clouded v f.before) (clouded_spans v f.before (spans_of v d (v.fields.checkpoint + 64) f.before w f.parted)))

found_checkpoint : (v : SuperValue) (d : Lying) (r : Replica) (w : Value v) (f : Final v d r) → r.checkpoint ≡ v.fields.checkpoint
found_checkpoint v d r w f = ap (λ (r : Replica). r.checkpoint) f.is ∙ (forgetting_checkpoint (clouded v f.before) ∙ (clouded_checkpoint v f.before ∙ f.parted.shaped.checkpoint))

found_first : (v : SuperValue) (d : Lying) (r : Replica) (w : Value v) (f : Final v d r) → r.first ≤ v.fields.checkpoint + 1
found_first v d r w f = let s = found_spans v d r w f in let c = found_checkpoint v d r w f in let reach = s.reach in omega (arith, reach, c)

-- nothing is found past the window
found_last : (v : SuperValue) (d : Lying) (r : Replica) (w : Value v) (f : Final v d r) (k : ℕ) (h : Header) → part_at r k ≡ part.Here h → k ≤ v.fields.checkpoint + 64
found_last v d r w f k h e =
    let s = found_spans v d r w f in
    let c = found_checkpoint v d r w f in
    let within = known_within r k s (knows_some r k h (ap header_of e)) in
    let high = within.1 in
    omega (arith, high, c)

-- what the first part of an opening leaves
pub once_mended_on : (v : SuperValue) (d : Lying) (m : Member) → Value v → IsMended v d m → IsOn (after_all lying d (mended v d).script) (once_mended v d m)
once_mended_on v d m w h =
    let r = recovered v d in
    let x = after_all lying d (mended v d).script in
    let f = h.final in
    let c = v.fields.checkpoint in
    let q = f.before in
    let low = found_first v (behind v d) r w f in
    on_all v.fields.cluster x (found v d) (carried_out (mended v d).script m) (ap (λ (v : SuperValue). v.fields.cluster) (sym h.stood.last)) h.stood.on (λ i g e.
    let k = c + 1 + i in
    let place : c + 1 - r.first + i ≡ k - r.first = omega (arith, low) in
    let at : get_or (found v d) i part.Nothing ≡ part_at r k = get_or-drop (c + 1 - r.first) r.parts i part.Nothing ∙ (ap (λ (i : ℕ). get_or r.parts i part.Nothing) place ∙ sym (part_within r k (omega (arith, low)))) in
    let is : part_at r k ≡ part.Here g = sym at ∙ e in
    let high : k ≤ c + 64 = found_last v (behind v d) r w f k g is in
    let of = found_here v (behind v d) r w f k g (omega arith) high is in
    let op = of_here_op v k (slot_at k lying (behind v d)) g of in
    let slot : k % 64 ≡ slot_of g = ap (λ (k : ℕ). k % 64) (sym op) in
    subst (λ (s : ℕ). HoldsEntry x.version v.fields.cluster g (held_at x.held s)) slot (h.stood.holds k g (omega arith) high of))

pub openings_find : OpeningsFind
openings_find d m v made o are =
    let good = ((opens_on d.face o.calm.face).value v o.value).1 in
    let w = value_is v good in
    let h = is_mended v d m w good o in
    let one = stood_first v d m good o in
    record {
      go = h.go;
      on = once_mended_on v d m w h;
      sound = sound v (behind v d) (recovered v d) (ends (Mend v) (begins (Mend v) m)) made w o.file h.final one.on.calm one.on.held are refl;
    }

pub is_mended_of : (v : SuperValue) (d : Lying) (m : Member) → IsOff d m v → IsMended v d m
is_mended_of v d m o = let good = ((opens_on d.face o.calm.face).value v o.value).1 in is_mended v d m (value_is v good) good o
