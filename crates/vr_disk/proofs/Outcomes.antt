-- What a cut leaves of one sector: what it read as before, or what a call wrote to it, or that damaged.
use Rattle.std.proofs.Common.{ℕ, zero, suc, ◌/◌, ◌%◌, ◌<◌, ◌≡◌, ◌≢◌, ◌⊎◌, inl, inr, refl, sym, ap, ◌∙◌, true, false, eqb, List, [], ◌∷◌, ◌++◌, length, get_or, set, Option, Some, subst, get_or-set_other, get_or-set_same, length-set}
use Rattle.std.specs.Bool.{MatchBool}
use Rattle.std.specs.List.{AllByRecursion}
use Rattle.std.proofs.lemmas.Bool.{cases_eq, cond_both, eq-eqb, ne_eqb, or_parts}
use Rattle.std.proofs.lemmas.List.Folds.{list_any-append}
use Rattle.vr_disk.specs.DiskState.{Call, Write, Sync, Face, Cell, Waiting, blank, after, after_all, begun, cell, cut, damaged, noted, reads, settle, settled, settled_cell, waits, written}
use Rattle.vr_disk.specs.Stops.{IsLeft, WritesOnly}
use Rattle.vr_disk.proofs.Frames.{frame_after, frame_settled, waits_after}

-- if the sector waits, then once, and what it was passes
abbrev OneAt : ℕ → (Cell → Type 0) → List Waiting → Type 0
OneAt i P [] = Unit {0}
OneAt i P (w ∷ ws) = MatchBool (eqb w.index i) (P w.was × (waits i ws ≡ false)) (OneAt i P ws)

one_none : (i : ℕ) (P : Cell → Type 0) (ws : List Waiting) → waits i ws ≡ false → OneAt i P ws
one_none i P [] n = tt
one_none i P (w ∷ ws) n = let p = or_parts (eqb w.index i) (waits i ws) n in rw p.0 (one_none i P ws p.1)

one_first : (i : ℕ) (P : Cell → Type 0) (ws : List Waiting) (was : Cell) → waits i ws ≡ false → P was → OneAt i P (ws ++ record { index = i; was = was } ∷ [])
one_first i P [] was n h = rw (eq-eqb i i refl) (h, refl)
one_first i P (w ∷ ws) was n h = let p = or_parts (eqb w.index i) (waits i ws) n in rw p.0 (one_first i P ws was p.1 h)

waits_more : (i : ℕ) (ws : List Waiting) (k : ℕ) (was : Cell) → k ≢ i → waits i ws ≡ false → waits i (ws ++ record { index = k; was = was } ∷ []) ≡ false
waits_more i ws k was d n = rw (list_any-append, n, ne_eqb k i d) refl

one_other : (i : ℕ) (P : Cell → Type 0) (ws : List Waiting) (k : ℕ) (was : Cell) → k ≢ i → OneAt i P ws → OneAt i P (ws ++ record { index = k; was = was } ∷ [])
one_other i P [] k was d h = rw (ne_eqb k i d) tt
one_other i P (w ∷ ws) k was d h =
    elim (eqb w.index i) as (λ b. MatchBool b (P w.was × (waits i ws ≡ false)) (OneAt i P ws) → MatchBool b (P w.was × (waits i (ws ++ record { index = k; was = was } ∷ []) ≡ false)) (OneAt i P (ws ++ record { index = k; was = was } ∷ []))) [
      | true ↦ λ h. (h.0, waits_more i ws k was d h.1)
      | false ↦ λ h. one_other i P ws k was d h
    ] h

-- the sector as it was before, or as written
data At (i : ℕ) (r : Option (List ℕ)) (b : List ℕ) (f : Face) : Type 0 where
  untouched : reads f i ≡ r → waits i f.waiting ≡ false → At i r b f
  touched : (cell f i).truth ≡ b → reads f i ≡ Some b → OneAt i (λ c. (c.reads ≡ r) ⊎ (c.reads ≡ Some b)) f.waiting → At i r b f

settled_left : (digit : ℕ) (was now : Cell) (r : Option (List ℕ)) (b : List ℕ) → now.truth ≡ b → (was.reads ≡ r) ⊎ (was.reads ≡ Some b) → IsLeft r b (settled_cell digit was now).reads
settled_left digit was now r b t h =
    cond_both (eqb digit 0) was _ (λ (c : Cell). IsLeft r b c.reads) (λ _. elim h [ inl e ↦ inl e | inr e ↦ inr (inl e) ])
    (λ _. cond_both (eqb digit 1) _ _ (λ (c : Cell). IsLeft r b c.reads) (λ _. inr (inl (ap Some t))) (λ _. inr (inr (ap (λ x. Some (damaged x)) t))))

left_by : (i code : ℕ) (r : Option (List ℕ)) (b : List ℕ) (ws : List Waiting) (cells : List Cell)
    → i < length cells → (get_or cells i blank).truth ≡ b → (get_or cells i blank).reads ≡ Some b → OneAt i (λ c. (c.reads ≡ r) ⊎ (c.reads ≡ Some b)) ws → IsLeft r b (get_or (settled code ws cells) i blank).reads
left_by i code r b [] cells l t e o = inr (inl e)
left_by i code r b (w ∷ ws) cells l t e o =
    let now = get_or cells w.index blank in
    let c = settled_cell (code % 3) w.was now in
    elim (cases_eq w.index i) [
      | inl s ↦
          let p : ((w.was.reads ≡ r) ⊎ (w.was.reads ≡ Some b)) × (waits i ws ≡ false) = rw (eq-eqb w.index i s) at o in
          let same : get_or (settled (code / 3) ws (set cells w.index c)) i blank ≡ c = frame_settled (code / 3) ws (set cells w.index c) i p.1 ∙ ap (λ k. get_or (set cells k c) i blank) s ∙ get_or-set_same cells i c blank l in
          let truth : now.truth ≡ b = ap (λ k. (get_or cells k blank).truth) s ∙ t in
          rw same (settled_left (code % 3) w.was now r b truth p.0)
      | inr d ↦
          let o' : OneAt i (λ c. (c.reads ≡ r) ⊎ (c.reads ≡ Some b)) ws = rw (ne_eqb w.index i d) at o in
          let kept : get_or (set cells w.index c) i blank ≡ get_or cells i blank = let d' : i ≢ w.index = λ e. d (sym e) in rw get_or-set_other refl in
          left_by i (code / 3) r b ws (set cells w.index c) (rw length-set l) (ap (λ (c : Cell). c.truth) kept ∙ t) (ap (λ (c : Cell). c.reads) kept ∙ e) o'
    ]

settle_left : (i code : ℕ) (r : Option (List ℕ)) (b : List ℕ) (f : Face) → i < length f.cells → At i r b f → IsLeft r b (reads (settle code f) i)
settle_left i code r b f l (untouched e n) = inl (ap (λ (c : Cell). c.reads) (frame_settled code f.waiting f.cells i n) ∙ e)
settle_left i code r b f l (touched t e o) = left_by i code r b f.waiting f.cells l t e o

waits_already : (i : ℕ) (r : Option (List ℕ)) (b : List ℕ) (f : Face) → waits i f.waiting ≡ true → At i r b f → OneAt i (λ c. (c.reads ≡ r) ⊎ (c.reads ≡ Some b)) f.waiting
waits_already i r b f w (untouched e n) = let c : true ≡ false = sym w ∙ n in cc
waits_already i r b f w (touched t e o) = o

was_passes : (i : ℕ) (r : Option (List ℕ)) (b : List ℕ) (f : Face) → At i r b f → (reads f i ≡ r) ⊎ (reads f i ≡ Some b)
was_passes i r b f (untouched e n) = inl e
was_passes i r b f (touched t e o) = inr e

-- it waits from its first write on
once_noted : (i : ℕ) (r : Option (List ℕ)) (b : List ℕ) (f : Face) (k : ℕ) → k ≡ i → At i r b f → OneAt i (λ c. (c.reads ≡ r) ⊎ (c.reads ≡ Some b)) (noted f.waiting k (cell f k))
once_noted i r b f k e s =
    let P : Cell → Type 0 = λ c. (c.reads ≡ r) ⊎ (c.reads ≡ Some b) in
    subst (λ n. OneAt i P (noted f.waiting n (cell f n))) (sym e)
    (cond_both (waits i f.waiting) f.waiting _ (OneAt i P) (λ w. waits_already i r b f w s) (λ n. one_first i P f.waiting (cell f i) n (was_passes i r b f s)))

-- a write to the sector, and one to another
at_written : (i : ℕ) (r : Option (List ℕ)) (b : List ℕ) (f : Face) (k : ℕ) (bytes : List ℕ) → i < length f.cells → k ≡ i → bytes ≡ b → At i r b f → At i r b (after f (Write k bytes))
at_written i r b f k bytes l e w s =
    let there : cell (after f (Write k bytes)) i ≡ written (cell f k) bytes = ap (λ n. get_or (set f.cells n (written (cell f k) bytes)) i blank) e ∙ get_or-set_same f.cells i (written (cell f k) bytes) blank l in
    touched (ap (λ (c : Cell). c.truth) there ∙ w) (ap (λ (c : Cell). c.reads) there ∙ ap Some w) (once_noted i r b f k e s)

at_spared : (i : ℕ) (r : Option (List ℕ)) (b : List ℕ) (f : Face) (k : ℕ) (bytes : List ℕ) → k ≢ i → At i r b f → At i r b (after f (Write k bytes))
at_spared i r b f k bytes d (untouched e n) = untouched (ap (λ (c : Cell). c.reads) (frame_after f (Write k bytes) i d) ∙ e) (waits_after f (Write k bytes) i d n)
at_spared i r b f k bytes d (touched t e o) =
    let same = frame_after f (Write k bytes) i d in
    touched (ap (λ (c : Cell). c.truth) same ∙ t) (ap (λ (c : Cell). c.reads) same ∙ e)
    (cond_both (waits k f.waiting) f.waiting _ (OneAt i (λ c. (c.reads ≡ r) ⊎ (c.reads ≡ Some b))) (λ _. o) (λ _. one_other i _ f.waiting k (cell f k) d o))

at_after : (i : ℕ) (r : Option (List ℕ)) (b : List ℕ) (f : Face) (c : Call) → i < length f.cells → WritesOnly i b c → At i r b f → At i r b (after f c)
at_after i r b f Sync l w (untouched e n) = untouched e refl
at_after i r b f Sync l w (touched t e o) = touched t e tt
at_after i r b f (Write k bytes) l w s =
    elim (cases_eq k i) [
      | inl same ↦ at_written i r b f k bytes l same (w same) s
      | inr d ↦ at_spared i r b f k bytes d s
    ]

begun_at : (i : ℕ) (r : Option (List ℕ)) (b : List ℕ) (f : Face) (c : Call) → i < length f.cells → WritesOnly i b c → At i r b f → At i r b (begun f c)
begun_at i r b f (Write k bytes) l w s = at_after i r b f (Write k bytes) l w s
begun_at i r b f Sync l w s = s

length_after : (f : Face) (c : Call) → length (after f c).cells ≡ length f.cells
length_after f (Write k bytes) = length-set f.cells k (written (cell f k) bytes)
length_after f Sync = refl

length_begun : (f : Face) (c : Call) → length (begun f c).cells ≡ length f.cells
length_begun f (Write k bytes) = length-set f.cells k (written (cell f k) bytes)
length_begun f Sync = refl

at_end : (i : ℕ) (r : Option (List ℕ)) (b : List ℕ) (f : Face) → At i r b f → IsLeft r b (reads f i)
at_end i r b f (untouched e n) = inl e
at_end i r b f (touched t e o) = inr (inl e)

cut_from : (cs : List Call) (f : Face) (i : ℕ) (r : Option (List ℕ)) (b : List ℕ) (j code : ℕ) → i < length f.cells → AllByRecursion (WritesOnly i b) cs → At i r b f → IsLeft r b (reads (cut j code f cs) i)
unfolding cut
cut_from [] f i r b j code l w s = at_end i r b f s
cut_from (c ∷ cs) f i r b zero code l w s = settle_left i code r b (begun f c) (rw length_begun l) (begun_at i r b f c l w.0 s)
cut_from (c ∷ cs) f i r b (suc j) code l w s = cut_from cs (after f c) i r b j code (rw length_after l) w.1 (at_after i r b f c l w.0 s)

pub cut_leaves : (cs : List Call) (f : Face) (i : ℕ) (b : List ℕ) (j code : ℕ) → i < length f.cells → AllByRecursion (WritesOnly i b) cs → waits i f.waiting ≡ false → IsLeft (reads f i) b (reads (cut j code f cs) i)
cut_leaves cs f i b j code l w n = cut_from cs f i (reads f i) b j code l w (untouched refl n)

-- calls that end well
all_from : (cs : List Call) (f : Face) (i : ℕ) (r : Option (List ℕ)) (b : List ℕ) → i < length f.cells → AllByRecursion (WritesOnly i b) cs → At i r b f → IsLeft r b (reads (after_all f cs) i)
all_from [] f i r b l w s = at_end i r b f s
all_from (c ∷ cs) f i r b l w s = all_from cs (after f c) i r b (rw length_after l) w.1 (at_after i r b f c l w.0 s)

pub all_leaves : (cs : List Call) (f : Face) (i : ℕ) (b : List ℕ) → i < length f.cells → AllByRecursion (WritesOnly i b) cs → waits i f.waiting ≡ false → IsLeft (reads f i) b (reads (after_all f cs) i)
all_leaves cs f i b l w n = all_from cs f i (reads f i) b l w (untouched refl n)
