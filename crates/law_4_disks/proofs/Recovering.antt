-- What an opening mends and finds, op by op.
use Rattle.std.proofs.Common.{ℕ, zero, suc, ◌+◌, ◌-◌, ◌%◌, ◌≤◌, ◌<◌, ◌≡◌, ◌≢◌, inl, inr, arith, refl, sym, ap, ◌∙◌, subst, true, List, [], ◌∷◌, ◌++◌, length, get_or, set, Option, Some, None, length-set, get_or-set_same}
use Rattle.std.specs.List.{range_with_len}
use Rattle.std.specs.Option.{option_map}
use Rattle.std.proofs.lemmas.Bool.{cases_eq}
use Rattle.vr_header.specs.declared.header.Header.{Header}
use Rattle.vr_header.specs.declared.part.Part.{Part}
use Rattle.vr_header.specs.declared.part.Part.TheVariants as part
use Rattle.vr_header.specs.Made.{Whole}
use Rattle.vr_recover.specs.declared.readings.Verdict.{Verdict}
use Rattle.vr_recover.specs.declared.readings.Verdict.TheVariants as verdict
use Rattle.vr_super.specs.Copies.{SuperValue}
use Rattle.vr_rings.specs.Calls.{header_calls}
use Rattle.vr_rings.specs.Held.{entry_read}
use Rattle.vr_rings.specs.Slots.{header_in, header_reading, prepare_bytes, prepare_reading, slot_of, sector_of, whole_in}
use Rattle.vr_lie.specs.Faults.{held_at}
use Rattle.vr_rules.specs.Replica.{Replica, part_at, with_part}
use Rattle.vr_rules.specs.Steps.{Effect, Rewrite, Word, ◌⨾◌, quiet, change, does, reading, each, after_all}
use Rattle.vr_rules.specs.Words.{entry_of}
use Rattle.vr_rules.specs.Opening.{Slot, entry_header, first_listed, may_be, mend_slot, old_part, part_by, recover_old, recover_op, rewrite, slot_at, slot_verdict, some_part}
use Rattle.vr_world.specs.Lying.{Lying, lying}
use Rattle.vr_world.specs.Group.{Member, begins, carried_out, ends, kept_at, kept_under}
use Rattle.vr_rules.proofs.Halves.{after_both}
use Rattle.vr_rules.proofs.Heads.{with_part_at, with_part_other}
use Rattle.vr_rules.proofs.Slots.{Value}
use Rattle.law_4_disks.specs.Beside.{HoldsEntry, IsOn, MayCome, MayGo, value_after}
use Rattle.law_4_disks.proofs.Calls.{header_are}
use Rattle.law_4_disks.proofs.Slots.{apart_alike}
use Rattle.law_4_disks.proofs.Regions.{header_apart}
use Rattle.law_4_disks.proofs.Effects.{others_after, slot_less}
use Rattle.law_4_disks.proofs.Found.{read_header, read_whole}
use Rattle.law_4_disks.proofs.Playing.{reads_entry, stay}
use Rattle.law_4_disks.proofs.Scripts.{value_is}
use Rattle.law_4_disks.proofs.Verdicts.{Of, case_of, group_of, here, here_is, lost, nothing, rewrite as rewritten, right_of, unknown, unread, version_of, wanted}

-- ---- scripts one after the other

abbrev pub values : List Effect → SuperValue → SuperValue
values [] v = v
values (e ∷ es) v = values es (value_after e v)

carried_both : (a b : List Effect) (m : Member) → carried_out (a ++ b) m ≡ carried_out b (carried_out a m)
unfolding carried_out
carried_both [] b m = refl
carried_both (e ∷ es) b m = carried_both es b (ends e (begins e m))

pub carried_last : (es : List Effect) (m : Member) → (carried_out es m).last ≡ values es m.last
unfolding carried_out
carried_last [] m = refl
carried_last (e ∷ es) m = carried_last es (ends e (begins e m)) ∙ ap (values es) (value_is e m)

pub go_both : (a b : List Effect) (d : Lying) (v : SuperValue) → MayGo a d v → MayGo b (after_all lying d a) (values a v) → MayGo (a ++ b) d v
unfolding after_all
go_both [] b d v x y = y
go_both (e ∷ es) b d v x y = (x.0, go_both es b (lying.after d e) (value_after e v) x.1 y)

-- ---- what is reached

pub record Shaped (v : SuperValue) (q : Replica) : Type 0 where
  pub first : q.first ≡ first_listed v
  pub size : length q.parts ≡ v.fields.checkpoint + 65 - first_listed v
  pub checkpoint : q.checkpoint ≡ v.fields.checkpoint

-- the Parts of the window up to an op are those of the slots as they read after the mending
pub record Parted (v : SuperValue) (d : Lying) (n : ℕ) (q : Replica) : Type 0 where
  pub shaped : Shaped v q
  pub parts : (k : ℕ) → v.fields.checkpoint < k → k ≤ n → part_at q k ≡ Of v k (slot_at k lying d)

-- the slots of the ops above read as then; those found stored hold their entries
pub record Stood (v : SuperValue) (d : Lying) (n : ℕ) (g : Lying) (m : Member) : Type 0 where
  pub on : IsOn g m
  pub last : m.last ≡ v
  pub left : (k : ℕ) → n < k → k ≤ v.fields.checkpoint + 64 → slot_at k lying g ≡ slot_at k lying d
  pub holds : (k : ℕ) (h : Header) → v.fields.checkpoint < k → k ≤ n → Of v k (slot_at k lying d) ≡ part.Here h → HoldsEntry g.version v.fields.cluster h (held_at g.held (k % 64))

-- what may be an op's is of a version that the file takes
stood_few : (v : SuperValue) (d : Lying) (n : ℕ) (g : Lying) (m : Member) (k : ℕ) (h : Header) → Stood v d n g m → may_be v k h ≡ true → h.version ≤ g.version
stood_few v d n g m k h s e =
    let most = version_of v k h e in
    let same = ap (λ (x : SuperValue). x.fields.version) s.last in
    let file = s.on.file in
    omega (arith, most, same, file)

-- what a word leaves
pub record Went (R : Replica → Type 0) (v : SuperValue) (d : Lying) (n : ℕ) (w : Word Lying) (q : Replica) (g : Lying) (m : Member) : Type 0 where
  pub found : R (w lying q g).replica
  pub stood : Stood v d n (after_all lying g (w lying q g).script) (carried_out (w lying q g).script m)
  pub go : MayGo (w lying q g).script g v

-- a word goes from one op to another
abbrev pub Passes : (Replica → Type 0) → (Replica → Type 0) → SuperValue → Lying → ℕ → ℕ → Word Lying → Type 0
Passes P R v d n k w = (q : Replica) (g : Lying) (m : Member) → P q → Stood v d n g m → Went R v d k w q g m

went_then : (Q R : Replica → Type 0) (v : SuperValue) (d : Lying) (k l : ℕ) (a b : Word Lying) (q : Replica) (g : Lying) (m : Member) → m.last ≡ v → Went Q v d k a q g m → Passes Q R v d k l b → Went R v d l (a ⨾ b) q g m
unfolding ◌⨾◌
went_then Q R v d k l a b q g m last first y =
    let one = a lying q g in
    let mid = after_all lying g one.script in
    let two = b lying one.replica mid in
    let second = y one.replica mid (carried_out one.script m) first.found first.stood in
    let same : values one.script v ≡ v = ap (values one.script) (sym last) ∙ (sym (carried_last one.script m) ∙ first.stood.last) in
    record {
      found = second.found;
      stood = subst (λ (x : Lying). Stood v d l x (carried_out (one.script ++ two.script) m)) (sym (after_both lying g one.script two.script)) (subst (Stood v d l (after_all lying mid two.script)) (sym (carried_both one.script two.script m)) second.stood);
      go = go_both one.script two.script g v first.go (subst (MayGo two.script mid) (sym same) second.go);
    }

pub passes_then : (P Q R : Replica → Type 0) (v : SuperValue) (d : Lying) (n k l : ℕ) (a b : Word Lying) → Passes P Q v d n k a → Passes Q R v d k l b → Passes P R v d n l (a ⨾ b)
passes_then P Q R v d n k l a b x y q g m p s = went_then Q R v d k l a b q g m s.last (x q g m p s) y

pub passes_change : (P R : Replica → Type 0) (v : SuperValue) (d : Lying) (n : ℕ) (f : Replica → Replica) → ((q : Replica) → P q → R (f q)) → Passes P R v d n n (change f)
unfolding change after_all carried_out
passes_change P R v d n f h q g m p s = record { found = h q p; stood = s; go = tt }

passes_quiet : (P : Replica → Type 0) (v : SuperValue) (d : Lying) (n : ℕ) → Passes P P v d n n quiet
unfolding quiet after_all carried_out
passes_quiet P v d n q g m p s = record { found = p; stood = s; go = tt }

-- ---- one op

-- the header sector of another slot leaves the readings
slot_stays : (k : ℕ) (h : Header) (g : Lying) → slot_of h ≢ k % 64 → slot_at k lying (lying.after g (Rewrite h)) ≡ slot_at k lying g
unfolding header_in whole_in
slot_stays k h g d =
    let a = apart_alike g.version (header_calls h) g.face (k % 64) (header_apart g.version h (k % 64) (omega arith) d) in
    rw (a.header, a.prepare) refl

other_slot : (c k j : ℕ) → c < k → k < j → j ≤ c + 64 → k % 64 ≡ j % 64 → ⊥
other_slot c k j a b l e = omega arith

not_here : (o : Option Header) (make : Header → Part) (h : Header) → ((g : Header) → make g ≢ part.Here h) → some_part make o ≢ part.Here h
not_here None make h n e = cc
not_here (Some g) make h n e = n g e

lost_here : (g h : Header) → part.Lost g ≢ part.Here h
lost_here g h e = cc

wanted_here : (g h : Header) → part.Wanted g ≢ part.Here h
wanted_here g h e = cc

nothing_here : (h : Header) → part.Nothing ≢ part.Here h
nothing_here h e = cc

unknown_here : (h : Header) → part.Unknown ≢ part.Here h
unknown_here h e = cc

-- nothing is written for the op
stood_still : (v : SuperValue) (d : Lying) (n : ℕ) (g : Lying) (m : Member) → Stood v d n g m → ((h : Header) → Of v (n + 1) (slot_at (n + 1) lying d) ≡ part.Here h → HoldsEntry g.version v.fields.cluster h (held_at g.held ((n + 1) % 64))) → Stood v d (n + 1) g m
stood_still v d n g m s own = record {
  on = s.on;
  last = s.last;
  left = λ k a b. s.left k (omega arith) b;
  holds = λ k h a b e. elim (cases_eq k (n + 1)) [
    | inl same ↦ subst (λ (k : ℕ). HoldsEntry g.version v.fields.cluster h (held_at g.held (k % 64))) (sym same) (own h (subst (λ (k : ℕ). Of v k (slot_at k lying d) ≡ part.Here h) same e))
    | inr other ↦ s.holds k h a (omega arith) e
  ];
}

-- where both sectors read as the entry the slot holds it
here_holds : (k home : ℕ) (g : Lying) (m : Member) (e : Whole) (x : Slot) → IsOn g m → x ≡ slot_at k lying g → x.entry ≡ Some e → x.header ≡ Some e.header → e.header.op ≡ k → e.header.cluster ≡ home → e.header.version ≤ g.version → HoldsEntry g.version home e.header (held_at g.held (k % 64))
here_holds k home g m e x o is entry head at own few =
    let slot : slot_of e.header ≡ k % 64 = ap (λ (k : ℕ). k % 64) at in
    let less : k % 64 < 64 = omega arith in
    let w = read_whole g.version g.face (k % 64) e o.calm.face less (ap (λ (x : Slot). x.entry) (sym is) ∙ entry) in
    let h = read_header g.face (k % 64) e.header o.calm.face less (ap (λ (x : Slot). x.header) (sym is) ∙ head) in
    let reads : entry_read g.version g.face (k % 64) ≡ Some (prepare_bytes e) =
    subst (λ (s : ℕ). entry_read g.version g.face s ≡ Some (prepare_bytes e)) slot (reads_entry g.version g.face e w.whole (subst (λ (s : ℕ). header_reading g.face s ≡ Some (sector_of e.header)) (sym slot) h.reads) (subst (λ (s : ℕ). prepare_reading g.version g.face s ≡ Some (prepare_bytes e)) (sym slot) w.reads)) in
    record { entry = e; whole = w.whole; header = refl; group = own; version = few; there = (o.calm.stand.each (k % 64) less).seen (prepare_bytes e) reads }

-- the header sector is written
stood_written : (v : SuperValue) (d : Lying) (n : ℕ) (g : Lying) (m : Member) (e : Whole) → v.fields.checkpoint ≤ n → n < v.fields.checkpoint + 64 → Stood v d n g m → e.header.op ≡ n + 1 → Of v (n + 1) (slot_at (n + 1) lying d) ≡ part.Here e.header
    → MayCome (Rewrite e.header) g v → Stood v d (n + 1) (lying.after g (Rewrite e.header)) (ends (Rewrite e.header) (begins (Rewrite e.header) m))
stood_written v d n g m e low high s at of may =
    let h = e.header in
    let slot : slot_of h ≡ (n + 1) % 64 = ap (λ (k : ℕ). k % 64) at in
    let q : Member = ends (Rewrite h) (begins (Rewrite h) m) in
    let x : Lying = lying.after g (Rewrite h) in
    let on : IsOn x q = stay (Rewrite h) g m s.on (subst (MayCome (Rewrite h) g) (sym s.last) may) in
    let there : get_or q.kept (slot_of h) None ≡ Some h = get_or-set_same (set m.kept (slot_of h) (kept_under true h (kept_at m h.op))) (slot_of h) (Some h) None (let n = length-set m.kept (slot_of h) (kept_under true h (kept_at m h.op)) in let y = s.on.held.count in let less = slot_less h in omega (arith, n, y, less)) in
    record {
      on = on;
      last = s.last;
      left = λ k a b. slot_stays k h g (λ c. other_slot v.fields.checkpoint (n + 1) k (omega arith) a b (sym slot ∙ c)) ∙ s.left k (omega arith) b;
      holds = λ k g0 a b z. elim (cases_eq k (n + 1)) [
        | inl same ↦
            let one : h ≡ g0 = let both : part.Here h ≡ part.Here g0 = sym of ∙ subst (λ (k : ℕ). Of v k (slot_at k lying d) ≡ part.Here g0) same z in cc in
            let y : HoldsEntry x.version v.fields.cluster h (held_at x.held (slot_of h)) = subst (λ (u : SuperValue). HoldsEntry x.version u.fields.cluster h (held_at x.held (slot_of h))) s.last (on.held.each (slot_of h) h (slot_less h) there) in
            subst (λ (s : ℕ). HoldsEntry x.version v.fields.cluster g0 (held_at x.held s)) (slot ∙ ap (λ (k : ℕ). k % 64) (sym same)) (subst (λ (h0 : Header). HoldsEntry x.version v.fields.cluster h0 (held_at x.held (slot_of h))) one y)
        | inr other ↦
            let apart : slot_of h ≢ k % 64 = λ c. other_slot v.fields.checkpoint k (n + 1) a (omega arith) (omega arith) (sym c ∙ slot) in
            let same = others_after (header_calls h) g (slot_of h) s.on.calm (λ slot l c. header_apart g.version h slot l c) (k % 64) (omega arith) apart in
            subst (HoldsEntry g.version v.fields.cluster g0) (sym same) (s.holds k g0 a (omega arith) z)
      ];
    }

-- what is mended of a slot
went_quiet : (v : SuperValue) (d : Lying) (n : ℕ) (q : Replica) (g : Lying) (m : Member) → Parted v d n q → Stood v d (n + 1) g m → Went (Parted v d n) v d (n + 1) quiet q g m
unfolding quiet after_all carried_out
went_quiet v d n q g m p s = record { found = p; stood = s; go = tt }

went_rewrite : (v : SuperValue) (d : Lying) (n : ℕ) (q : Replica) (g : Lying) (m : Member) (e : Whole) → v.fields.checkpoint ≤ n → n < v.fields.checkpoint + 64 → Parted v d n q → Stood v d n g m → e.header.op ≡ n + 1
    → Of v (n + 1) (slot_at (n + 1) lying d) ≡ part.Here e.header → whole_in g.version g.face (slot_of e.header) ≡ Some e → e.header.cluster ≡ v.fields.cluster → e.header.version ≤ g.version → Went (Parted v d n) v d (n + 1) (rewrite (Some e.header)) q g m
unfolding does after_all carried_out
went_rewrite v d n q g m e low high p s at of reads own few =
    let is = (read_whole g.version g.face (slot_of e.header) e s.on.calm.face (slot_less e.header) reads).whole in
    let may : MayCome (Rewrite e.header) g v = record { fit = (e, reads, refl, own, few); calls = header_are e.header is.header } in
    record { found = p; stood = stood_written v d n g m e low high s at of may; go = (may, tt) }

went_mend : (v : SuperValue) (d : Lying) (n : ℕ) (q : Replica) (g : Lying) (m : Member) (x : Slot) → v.fields.checkpoint ≤ n → n < v.fields.checkpoint + 64 → Parted v d n q → Stood v d n g m → x ≡ slot_at (n + 1) lying g
    → Went (Parted v d n) v d (n + 1) (mend_slot x (slot_verdict v (n + 1) x)) q g m
went_mend v d n q g m x low high p s is =
    let k = n + 1 in
    let M : Verdict → Type 0 = λ t. Went (Parted v d n) v d (n + 1) (mend_slot x t) q g m in
    let same : x ≡ slot_at k lying d = is ∙ s.left k (omega arith) (omega arith) in
    let back : Of v k (slot_at k lying d) ≡ Of v k x = ap (Of v k) (sym same) in
    let still : ((h : Header) → Of v k x ≡ part.Here h → HoldsEntry g.version v.fields.cluster h (held_at g.held (k % 64))) → Went (Parted v d n) v d (n + 1) quiet q g m = λ own. went_quiet v d n q g m p (stood_still v d n g m s (λ h e. own h (sym back ∙ e))) in
    let is_part : (t : Verdict) → slot_verdict v k x ≡ t → Of v k x ≡ part_by v k x t = λ t e. ap (part_by v k x) e in
    elim (case_of v k x) [
      | here e c ↦ subst M (sym c.verdict) (still (λ h z.
          let of = is_part verdict.Here c.verdict ∙ here_is v k x e c.entry in
          let one : e.header ≡ h = let both : part.Here e.header ≡ part.Here h = sym of ∙ z in cc in
          subst (λ (h : Header). HoldsEntry g.version v.fields.cluster h (held_at g.held (k % 64))) one (here_holds k v.fields.cluster g m e x s.on is c.entry c.header (right_of v k e.header c.fits).0 (group_of v k e.header c.fits) (stood_few v d n g m k e.header s c.fits))))
      | rewritten e c ↦
          let at = (right_of v k e.header c.fits).0 in
          let slot : slot_of e.header ≡ k % 64 = ap (λ (k : ℕ). k % 64) at in
          let of = back ∙ (is_part verdict.Rewrite c.verdict ∙ here_is v k x e c.entry) in
          let reads : whole_in g.version g.face (slot_of e.header) ≡ Some e = subst (λ (i : ℕ). whole_in g.version g.face i ≡ Some e) (sym slot) (ap (λ (x : Slot). x.entry) (sym is) ∙ c.entry) in
          let head : entry_header x ≡ Some e.header = ap (option_map (λ (e : Whole). e.header)) c.entry in
          subst M (sym c.verdict) (subst (λ (o : Option Header). Went (Parted v d n) v d (n + 1) (rewrite o) q g m) (sym head) (went_rewrite v d n q g m e low high p s at of reads (group_of v k e.header c.fits) (stood_few v d n g m k e.header s c.fits)))
      | lost h c ↦ subst M (sym c.verdict) (still (λ h z. absurd (not_here _ part.Lost h (λ g. lost_here g h) (sym (is_part verdict.Lost c.verdict) ∙ z))))
      | unread l e ↦ subst M (sym e) (still (λ h z. absurd (not_here _ part.Lost h (λ g. lost_here g h) (sym (is_part verdict.Lost e) ∙ z))))
      | wanted l e ↦ subst M (sym e) (still (λ h z. absurd (not_here _ part.Wanted h (λ g. wanted_here g h) (sym (is_part verdict.Wanted e) ∙ z))))
      | nothing l e ↦ subst M (sym e) (still (λ h z. absurd (nothing_here h (sym (is_part verdict.Nothing e) ∙ z))))
      | unknown l e ↦ subst M (sym e) (still (λ h z. absurd (unknown_here h (sym (is_part verdict.Unknown e) ∙ z))))
    ]

shaped_part : (v : SuperValue) (k : ℕ) (p : Part) (q : Replica) → Shaped v q → Shaped v (with_part k p q)
unfolding with_part
shaped_part v k p q s = record { first = s.first; size = length-set q.parts (k - q.first) p ∙ s.size; checkpoint = s.checkpoint }

parted_part : (v : SuperValue) (d : Lying) (n : ℕ) (p : Part) (q : Replica) → Value v → v.fields.checkpoint ≤ n → n < v.fields.checkpoint + 64 → Parted v d n q → p ≡ Of v (n + 1) (slot_at (n + 1) lying d) → Parted v d (n + 1) (with_part (n + 1) p q)
parted_part v d n p q w low high h is =
    let first = h.shaped.first in
    let size = h.shaped.size in
    let reach = w.reach in
    let from : q.first ≤ n + 1 = omega (arith, first) in
    record {
      shaped = shaped_part v (n + 1) p q h.shaped;
      parts = λ k a b. elim (cases_eq k (n + 1)) [
        | inl same ↦ subst (λ (k : ℕ). part_at (with_part (n + 1) p q) k ≡ Of v k (slot_at k lying d)) (sym same) (with_part_at (n + 1) p q from (omega (arith, first, size)) ∙ is)
        | inr other ↦ with_part_other (n + 1) p q k from other ∙ h.parts k a (omega arith)
      ];
    }

passes_op : (v : SuperValue) (d : Lying) (n : ℕ) → Value v → v.fields.checkpoint ≤ n → n < v.fields.checkpoint + 64 → Passes (Parted v d n) (Parted v d (n + 1)) v d n (n + 1) (recover_op v (n + 1))
unfolding recover_op reading
passes_op v d n w low high q g m p s =
    let x = slot_at (n + 1) lying g in
    let part : Part = Of v (n + 1) x in
    let same : x ≡ slot_at (n + 1) lying d = s.left (n + 1) (omega arith) (omega arith) in
    let all = went_then (Parted v d n) (Parted v d (n + 1)) v d (n + 1) (n + 1) (mend_slot x (slot_verdict v (n + 1) x)) (change (with_part (n + 1) part)) q g m s.last (went_mend v d n q g m x low high p s refl)
    (passes_change (Parted v d n) (Parted v d (n + 1)) v d (n + 1) (with_part (n + 1) part) (λ q h. parted_part v d n part q w low high h (ap (Of v (n + 1)) same))) in
    record { found = all.found; stood = all.stood; go = all.go }

pub passes_ops : (v : SuperValue) (d : Lying) (n count : ℕ) → Value v → v.fields.checkpoint ≤ n → n + count ≤ v.fields.checkpoint + 64 → Passes (Parted v d n) (Parted v d (n + count)) v d n (n + count) (each (recover_op v) (range_with_len (n + 1) count))
unfolding each
passes_ops v d n zero w a b = let same : n ≡ n + 0 = omega arith in subst (λ m. Passes (Parted v d n) (Parted v d m) v d n m quiet) same (passes_quiet (Parted v d n) v d n)
passes_ops v d n (suc count) w a b =
    let same : n + 1 + count ≡ n + suc count = omega arith in
    subst (λ m. Passes (Parted v d n) (Parted v d m) v d n m (recover_op v (n + 1) ⨾ each (recover_op v) (range_with_len (n + 1 + 1) count))) same
    (passes_then (Parted v d n) (Parted v d (n + 1)) (Parted v d (n + 1 + count)) v d n (n + 1) (n + 1 + count) (recover_op v (n + 1)) (each (recover_op v) (range_with_len (n + 1 + 1) count)) (passes_op v d n w a (omega arith))
    (passes_ops v d (n + 1) count w (omega arith) (omega arith)))

-- ---- ops of the checkpoint

parted_old : (v : SuperValue) (d : Lying) (k : ℕ) (p : Part) (q : Replica) → Parted v d v.fields.checkpoint q → Parted v d v.fields.checkpoint (with_part k p q)
parted_old v d k p q h = record { shaped = shaped_part v k p q h.shaped; parts = λ k a b. absurd (omega arith) }

passes_old : (v : SuperValue) (d : Lying) (h : Header) → Passes (Parted v d v.fields.checkpoint) (Parted v d v.fields.checkpoint) v d v.fields.checkpoint v.fields.checkpoint (recover_old h)
unfolding recover_old reading
passes_old v d h q g m p s =
    let o = entry_of h lying g in
    let one = passes_change (Parted v d v.fields.checkpoint) (Parted v d v.fields.checkpoint) v d v.fields.checkpoint (with_part h.op (old_part h o)) (λ q i. parted_old v d h.op (old_part h o) q i) q g m p s in
    record { found = one.found; stood = one.stood; go = one.go }

pub passes_olds : (v : SuperValue) (d : Lying) (hs : List Header) → Passes (Parted v d v.fields.checkpoint) (Parted v d v.fields.checkpoint) v d v.fields.checkpoint v.fields.checkpoint (each recover_old hs)
unfolding each
passes_olds v d [] = passes_quiet (Parted v d v.fields.checkpoint) v d v.fields.checkpoint
passes_olds v d (h ∷ hs) =
    let c = v.fields.checkpoint in
    passes_then (Parted v d c) (Parted v d c) (Parted v d c) v d c c c (recover_old h) (each recover_old hs) (passes_old v d h) (passes_olds v d hs)
