-- A disk above a file stays one of the disks of `vr_disk` at each call.
use Rattle.std.specs.Bool.{MatchBool}
use Rattle.std.proofs.Common.{arith, ℕ, zero, suc, ◌+◌, ◌<◌, ◌≡◌, ◌≢◌, ◌⊎◌, inl, inr, refl, sym, ap, ◌∙◌, Bool, true, false, eqb, List, [], ◌∷◌, ◌++◌, length, get_or, Option, Some, None, length-set}
use Rattle.std.proofs.lemmas.Bool.{cases_Bool, cond_both, cond-true, cond-false, eq-eqb, ne_eqb, or_parts}
use Rattle.std.proofs.lemmas.Bool.Decides.{eqb_tells}
use Rattle.std.proofs.lemmas.List.{get_or-set_same}
use Rattle.std.proofs.lemmas.List.Folds.{list_any-append}
use Rattle.vr_disk.specs.DiskState.{Cell, Face, Sync, Waiting, Write, after, blank, cell, damaged, noted, reads, waits, written}
use Rattle.vr_disk.specs.Regions.{sectors}
use Rattle.vr_disk.specs.Stops.{IsLeft}
use Rattle.vr_disk.proofs.Frames.{frame_after, frame_settled, reads_back, reads_other}
use Rattle.vr_io_policy.specs.Files.{Leaves, Spot, over, sector_written, settled_as, synced}
use Rattle.vr_io_policy.proofs.Over.{over_cases, over_now}
use Rattle.vr_file.specs.Above.{Spared}
use Rattle.vr_file.specs.Calls.{Spots}
use Rattle.vr_file.specs.Shown.{AreWrittenOnce, Does, Follows, IsADiskOfProofs, IsCutSo, IsShown, IsShownAt, IsWhole, IsWrittenOnce, LosesMore, MayLeave, OnceAt, Reads, RunsSo, Step, read_so, reading_so}
use Rattle.vr_file.proofs.Settling.{Coded, below_three, coded, digit_for, left_so}

-- ---- those that wait

once_map : (i : ℕ) (P Q : Cell → Type 0) (ws : List Waiting) → ((c : Cell) → P c → Q c) → OnceAt i P ws → OnceAt i Q ws
once_map i P Q [] f h = tt
once_map i P Q (w ∷ ws) f h =
    elim (eqb w.index i) as (λ b. MatchBool b (P w.was × (waits i ws ≡ false)) (OnceAt i P ws) → MatchBool b (Q w.was × (waits i ws ≡ false)) (OnceAt i Q ws)) [
      | true ↦ λ h. (f w.was h.0, h.1)
      | false ↦ λ h. once_map i P Q ws f h
    ] h

once_first : (i : ℕ) (P : Cell → Type 0) (ws : List Waiting) (was : Cell) → waits i ws ≡ false → P was → OnceAt i P (ws ++ record { index = i; was = was } ∷ [])
once_first i P [] was n h = rw (eq-eqb i i refl) (h, refl)
once_first i P (w ∷ ws) was n h = let p = or_parts (eqb w.index i) (waits i ws) n in rw p.0 (once_first i P ws was p.1 h)

waits_more : (i : ℕ) (ws : List Waiting) (k : ℕ) (was : Cell) → k ≢ i → waits i ws ≡ false → waits i (ws ++ record { index = k; was = was } ∷ []) ≡ false
waits_more i ws k was d n = rw (list_any-append, n, ne_eqb k i d) refl

once_other : (i : ℕ) (P : Cell → Type 0) (ws : List Waiting) (k : ℕ) (was : Cell) → k ≢ i → OnceAt i P ws → OnceAt i P (ws ++ record { index = k; was = was } ∷ [])
once_other i P [] k was d h = rw (ne_eqb k i d) tt
once_other i P (w ∷ ws) k was d h =
    elim (eqb w.index i) as (λ b. MatchBool b (P w.was × (waits i ws ≡ false)) (OnceAt i P ws) → MatchBool b (P w.was × (waits i (ws ++ record { index = k; was = was } ∷ []) ≡ false)) (OnceAt i P (ws ++ record { index = k; was = was } ∷ []))) [
      | true ↦ λ h. (h.0, waits_more i ws k was d h.1)
      | false ↦ λ h. once_other i P ws k was d h
    ] h

waits_last : (i : ℕ) (ws : List Waiting) (was : Cell) → waits i ws ≡ false → waits i (ws ++ record { index = i; was = was } ∷ []) ≡ true
waits_last i ws was n = rw (list_any-append, n, eq-eqb i i refl) refl

waits_noted : (i : ℕ) (ws : List Waiting) (was : Cell) → waits i (noted ws i was) ≡ true
waits_noted i ws was = cond_both (waits i ws) ws (ws ++ record { index = i; was = was } ∷ []) (λ ws. waits i ws ≡ true) (λ t. t) (λ n. waits_last i ws was n)

waited : (i : ℕ) (ws : List Waiting) (k : ℕ) (was : Cell) → waits i (noted ws k was) ≡ false → waits i ws ≡ false
waited i ws k was n = elim (cases_Bool (waits i ws)) [
  | inl t ↦ absurd (let stays : waits i (noted ws k was) ≡ true = cond_both (waits k ws) ws (ws ++ record { index = k; was = was } ∷ []) (λ ws. waits i ws ≡ true) (λ _. t) (λ _. rw (list_any-append, t) refl) in let x : true ≡ false = sym stays ∙ n in cc)
  | inr m ↦ m
]

-- ---- what a stop may leave

settled_alone : (r left : Option (List ℕ)) → Leaves (settled_as r) left → left ≡ r
settled_alone r left (inl e) = e
settled_alone r left (inr w) = absurd w.among

newly_leaves : (s : Spot) (bytes : List ℕ) (left : Option (List ℕ)) → Leaves (record { now = Some bytes; synced = s.synced; since = bytes ∷ s.since }) left
    → Leaves s left ⊎ ((left ≡ Some bytes) ⊎ (left ≡ Some (damaged bytes)))
newly_leaves s bytes left (inl e) = inl (inl e)
newly_leaves s bytes left (inr w) = elim w.among [
  | inl same ↦ inr (rw same at w.whole)
  | inr there ↦ inl (inr (record { bytes = w.bytes; among = there; whole = w.whole }))
]

over_leaves : (s : Spot) (bytes : List ℕ) (left : Option (List ℕ)) → Leaves (over s bytes) left → Leaves s left ⊎ ((left ≡ Some bytes) ⊎ (left ≡ Some (damaged bytes)))
over_leaves s bytes left l = elim (over_cases s bytes) [
  | inl p ↦ inl (rw p.1 at l)
  | inr e ↦ newly_leaves s bytes left (rw e at l)
]

may_leave : (s : Spot) (bytes : List ℕ) (was : Cell) → MayLeave s bytes was → MayLeave (over s bytes) bytes was
may_leave s bytes was h left l = elim (over_leaves s bytes left l) [
  | inl x ↦ h left x
  | inr y ↦ inr y
]

may_leave_first : (s : Spot) (bytes : List ℕ) (was : Cell) → ((left : Option (List ℕ)) → Leaves s left → left ≡ was.reads) → MayLeave (over s bytes) bytes was
may_leave_first s bytes was h left l = elim (over_leaves s bytes left l) [
  | inl x ↦ inl (h left x)
  | inr y ↦ inr y
]

-- ---- a write

truth_back : (g : Face) (i : ℕ) (bytes : List ℕ) → i < length g.cells → (cell (after g (Write i bytes)) i).truth ≡ bytes
truth_back g i bytes l = ap (λ (c : Cell). c.truth) (get_or-set_same g.cells i (written (cell g i) bytes) blank l)

once_written : (g : Face) (s : Spot) (i : ℕ) (bytes : List ℕ) → IsWrittenOnce i bytes g → IsShownAt g false s i → OnceAt i (MayLeave (over s bytes) bytes) (noted g.waiting i (cell g i))
once_written g s i bytes once h =
    cond_both (waits i g.waiting) g.waiting (g.waiting ++ record { index = i; was = cell g i } ∷ []) (OnceAt i (MayLeave (over s bytes) bytes))
    (λ t. once_map i (MayLeave s bytes) (MayLeave (over s bytes) bytes) g.waiting (may_leave s bytes) (let o : OnceAt i (MayLeave s (cell g i).truth) g.waiting = h.wait refl in rw (once t) at o))
    (λ n. once_first i (MayLeave (over s bytes) bytes) g.waiting (cell g i) n (may_leave_first s bytes (cell g i) (h.rest refl n)))

written_here : (g : Face) (lost : Bool) (s : Spot) (i : ℕ) (bytes : List ℕ) → i < length g.cells → IsWrittenOnce i bytes g → IsShownAt g lost s i → IsShownAt (after g (Write i bytes)) lost (over s bytes) i
written_here g lost s i bytes l once h = record {
  now = over_now s bytes ∙ sym (reads_back g i bytes l);
  rest = λ z n left x. absurd (let y : true ≡ false = sym (waits_noted i g.waiting (cell g i)) ∙ n in cc);
  wait = λ z. rw (truth_back g i bytes l) (once_written g s i bytes once (rw z at h));
}

written_there : (g : Face) (lost : Bool) (s : Spot) (i j : ℕ) (bytes : List ℕ) → j ≢ i → IsShownAt g lost s j → IsShownAt (after g (Write i bytes)) lost s j
written_there g lost s i j bytes n h =
    let m : i ≢ j = λ e. n (sym e) in
    let same : cell (after g (Write i bytes)) j ≡ cell g j = frame_after g (Write i bytes) j m in
    record {
      now = h.now ∙ sym (reads_other g i j bytes n);
      rest = λ z w left x. h.rest z (waited j g.waiting i (cell g i) w) left x ∙ sym (reads_other g i j bytes n);
      wait = λ z. rw same (cond_both (waits i g.waiting) g.waiting (g.waiting ++ record { index = i; was = cell g i } ∷ []) (OnceAt j (MayLeave s (cell g j).truth)) (λ _. h.wait z) (λ _. once_other j (MayLeave s (cell g j).truth) g.waiting i (cell g i) m (h.wait z)));
    }

writes : (g : Face) (lost : ℕ → Bool) (d : Spots) (i : ℕ) (bytes : List ℕ) → i < sectors → IsWrittenOnce i bytes g → IsShown g lost d → IsShown (after g (Write i bytes)) lost (sector_written d i bytes)
writes g lost d i bytes l once h = record {
  size = length-set g.cells i (written (cell g i) bytes) ∙ h.size;
  at = λ j m. elim (eqb_tells j i) [
    | inl p ↦ rw (cond-true (eqb j i) (over (d j) bytes) (d j) p.0, p.1) (written_here g (lost i) (d i) i bytes (let n = h.size in omega arith) once (h.at i l))
    | inr p ↦ rw (cond-false (eqb j i) (over (d j) bytes) (d j) p.0) (written_there g (lost j) (d j) i j bytes p.1 (h.at j m))
  ];
}

-- ---- a sync

synced_at : (g : Face) (lost : Bool) (s : Spot) (i : ℕ) → IsShownAt g lost s i → IsShownAt (after g Sync) false (settled_as s.now) i
synced_at g lost s i h = record { now = h.now; rest = λ z n left x. settled_alone s.now left x ∙ h.now; wait = λ z. tt }

-- ---- sectors that are lost

read_at : (e : Spots) (i : ℕ) (cells : List Cell) (k : ℕ) → k < length cells
    → get_or (read_so e i cells) k blank ≡ record { truth = (get_or cells k blank).truth; reads = (e (i + k)).now; before = (get_or cells k blank).before }
read_at e i [] k l = absurd (omega arith)
read_at e i (c ∷ cs) zero l = let z : i + 0 ≡ i = omega arith in rw z refl
read_at e i (c ∷ cs) (suc k) l = read_at e (i + 1) cs k (omega arith) ∙ (let z : i + 1 + k ≡ i + suc k = omega arith in rw z refl)

read_there : (e : Spots) (g : Face) (i : ℕ) → i < length g.cells → cell (reading_so e g) i ≡ record { truth = (cell g i).truth; reads = (e i).now; before = (cell g i).before }
read_there e g i l = read_at e 0 g.cells i l ∙ (let z : 0 + i ≡ i = omega arith in rw z refl)

length_read : (e : Spots) (i : ℕ) (cells : List Cell) → length (read_so e i cells) ≡ length cells
length_read e i [] = refl
length_read e i (c ∷ cs) = ap (λ n. suc n) (length_read e (i + 1) cs)

abbrev lost_by : {A B : Type 0} → A ⊎ B → Bool → Bool
lost_by (inl a) lost = lost
lost_by (inr b) lost = true

abbrev IsSpared : Spot → Spot → List ℕ → Type 0
IsSpared s t bytes = (t ≡ s) ⊎ ((s.now ≡ None) × (t ≡ over s bytes))

lost_at : (g : Face) (lost : Bool) (s : Spot) (e : Spots) (i : ℕ) (bytes : List ℕ) (x : IsSpared s (e i) bytes) → i < length g.cells → IsShownAt g lost s i → IsShownAt (reading_so e g) (lost_by x lost) (e i) i
lost_at g lost s e i bytes (inl same) l h =
    let c = read_there e g i l in
    let r : reads (reading_so e g) i ≡ (e i).now = ap (λ (c : Cell). c.reads) c in
    let t : (cell (reading_so e g) i).truth ≡ (cell g i).truth = ap (λ (c : Cell). c.truth) c in
    record {
      now = sym r;
      rest = λ z n left x. h.rest z n left (rw same at x) ∙ (sym h.now ∙ (ap (λ (s : Spot). s.now) (sym same) ∙ sym r));
      wait = λ z. rw (t, same) (h.wait z);
    }
lost_at g lost s e i bytes (inr p) l h =
    let r : reads (reading_so e g) i ≡ (e i).now = ap (λ (c : Cell). c.reads) (read_there e g i l) in
    record { now = sym r; rest = λ z. absurd cc; wait = λ z. absurd cc }

lost_unread : (g : Face) (lost : Bool) (s t : Spot) (i : ℕ) (bytes : List ℕ) (x : IsSpared s t bytes) → IsShownAt g lost s i → lost_by x lost ≡ true → (lost ≡ true) ⊎ (reads g i ≡ None)
lost_unread g lost s t i bytes (inl same) h z = inl z
lost_unread g lost s t i bytes (inr p) h z = inr (sym h.now ∙ p.0)

lost_others : (g : Face) (lost : Bool) (s : Spot) (e : Spots) (i : ℕ) (bytes : List ℕ) (x : IsSpared s (e i) bytes) → i < length g.cells → IsShownAt g lost s i → lost_by x lost ≡ false → reads (reading_so e g) i ≡ reads g i
lost_others g lost s e i bytes (inl same) l h z = ap (λ (c : Cell). c.reads) (read_there e g i l) ∙ (ap (λ (s : Spot). s.now) same ∙ h.now)
lost_others g lost s e i bytes (inr p) l h z = absurd cc

loses : (g : Face) (lost : ℕ → Bool) (d e : Spots) → IsShown g lost d → Spared d e → LosesMore g lost e
loses g lost d e h s =
    let size = h.size in
    record {
      more = λ i. lost_by (s.at i) (lost i);
      shown = record { size = length_read e 0 g.cells ∙ h.size; at = λ i l. lost_at g (lost i) (d i) e i _ (s.at i) (omega arith) (h.at i l) };
      unread = λ i l z. lost_unread g (lost i) (d i) (e i) i _ (s.at i) (h.at i l) z;
      others = λ i l z. lost_others g (lost i) (d i) e i _ (s.at i) (omega arith) (h.at i l) z;
    }

-- ---- a stop

stops : (g : Face) (lost : ℕ → Bool) (d : Spots) (left : ℕ → Option (List ℕ)) → IsShown g lost d → ((i : ℕ) → Leaves (d i) (left i)) → IsCutSo g lost left
stops g lost d left h x =
    let size = h.size in
    let digits : ℕ → ℕ = λ i. digit_for (cell g i) (left i) in
    let c : Coded digits g.waiting = coded digits (λ i. below_three (cell g i) (left i)) g.waiting in
    record {
      code = c.code;
      each = λ i l n. elim (cases_Bool (waits i g.waiting)) [
        | inl t ↦ left_so digits c.code i g (left i) (omega arith) t (c.each i t) (once_map i (MayLeave (d i) (cell g i).truth) (λ was. IsLeft was.reads (cell g i).truth (left i)) g.waiting (λ was p. p (left i) (x i)) ((h.at i l).wait n))
        | inr w ↦ ap (λ (c : Cell). c.reads) (frame_settled c.code g.waiting g.cells i w) ∙ sym ((h.at i l).rest n w (left i) (x i))
      ];
    }

-- ---- lists of calls

spared_same : (d m : Spots) (i : ℕ) → IsWhole d → Spared d m → m i ≡ d i
spared_same d m i w s = elim (s.at i) [
  | inl same ↦ same
  | inr p ↦ absurd (w.each i p.0)
]

shown_same : (g : Face) (lost : ℕ → Bool) (d m : Spots) → ((i : ℕ) → m i ≡ d i) → IsShown g lost d → IsShown g lost m
shown_same g lost d m e h = record { size = h.size; at = λ i l. rw (e i) (h.at i l) }

whole_same : (d m : Spots) → ((i : ℕ) → m i ≡ d i) → IsWhole d → IsWhole m
whole_same d m e w = record { each = λ i n. w.each i (ap (λ (s : Spot). s.now) (sym (e i)) ∙ n) }

some_not_none : (bytes : List ℕ) (o : Option (List ℕ)) → o ≡ Some bytes → o ≡ None → ⊥
some_not_none bytes o e n = absurd cc

written_now : (d : Spots) (i j : ℕ) (bytes : List ℕ) → IsWhole d → (sector_written d i bytes j).now ≡ None → ⊥
written_now d i j bytes w = elim (eqb_tells j i) [
  | inl p ↦ λ n. some_not_none bytes (over (d j) bytes).now (over_now (d j) bytes) (rw (cond-true (eqb j i) (over (d j) bytes) (d j) p.0) at n)
  | inr p ↦ λ n. w.each j (rw (cond-false (eqb j i) (over (d j) bytes) (d j) p.0) at n)
]

whole_written : (d : Spots) (i : ℕ) (bytes : List ℕ) → IsWhole d → IsWhole (sector_written d i bytes)
whole_written d i bytes w = record { each = λ j n. written_now d i j bytes w n }

whole_synced : (d : Spots) → IsWhole d → IsWhole (synced d)
whole_synced d w = record { each = λ i n. w.each i n }

shown_synced : (g : Face) (lost : ℕ → Bool) (d : Spots) → IsShown g lost d → IsShown (after g Sync) (λ i. false) (synced d)
shown_synced g lost d h = record { size = h.size; at = λ i l. synced_at g (lost i) (d i) i (h.at i l) }

lists : (ss : List Step) (g : Face) (d e : Spots) → AreWrittenOnce ss g → IsWhole d → Follows ss d e → IsShown g (λ i. false) d → RunsSo ss g e
lists [] g d e o w f h = record { shown = shown_same g (λ i. false) d e (λ i. spared_same d e i w f) h; given = tt }
lists (Reads i given ∷ ss) g d e o w f h =
    let same : (j : ℕ) → f.0 j ≡ d j = λ j. spared_same d f.0 j w f.1 in
    let s : IsShown g (λ i. false) f.0 = shown_same g (λ i. false) d f.0 same h in
    let r : RunsSo ss g e = lists ss g f.0 e o.1 (whole_same d f.0 same w) f.3 s in
    record { shown = r.shown; given = (sym f.2 ∙ (s.at i o.0).now, r.given) }
lists (Does (Write i bytes) ∷ ss) g d e o w f h =
    let same : (j : ℕ) → f.0 j ≡ d j = λ j. spared_same d f.0 j w f.1 in
    let s : IsShown (after g (Write i bytes)) (λ i. false) (sector_written f.0 i bytes) = writes g (λ i. false) f.0 i bytes o.0 o.1 (shown_same g (λ i. false) d f.0 same h) in
    let r : RunsSo ss (after g (Write i bytes)) e = lists ss (after g (Write i bytes)) (sector_written f.0 i bytes) e o.2 (whole_written f.0 i bytes (whole_same d f.0 same w)) f.2 s in
    record { shown = r.shown; given = r.given }
lists (Does Sync ∷ ss) g d e o w f h =
    let same : (j : ℕ) → f.0 j ≡ d j = λ j. spared_same d f.0 j w f.1 in
    let s : IsShown (after g Sync) (λ i. false) (synced f.0) = shown_synced g (λ i. false) f.0 (shown_same g (λ i. false) d f.0 same h) in
    let r : RunsSo ss (after g Sync) e = lists ss (after g Sync) (synced f.0) e o (whole_synced f.0 (whole_same d f.0 same w)) f.2 s in
    record { shown = r.shown; given = r.given }

pub is_a_disk_of_proofs : IsADiskOfProofs
is_a_disk_of_proofs = record {
  begins = λ g n e. record { size = n; at = λ i l. record { now = refl; rest = λ z w left x. settled_alone (reads g i) left x; wait = λ z. rw e tt } };
  writes = writes;
  syncs = shown_synced;
  loses = loses;
  stops = stops;
  lists = lists;
}
