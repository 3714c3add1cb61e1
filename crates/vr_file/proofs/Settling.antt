-- A stop's code, by what the stop left of each sector.
use Rattle.std.proofs.Common.{arith, ℕ, ◌+◌, ◌*◌, ◌/◌, ◌%◌, ◌<◌, ◌≡◌, ◌≢◌, inl, inr, sym, ap, ◌∙◌, true, false, cond, List, [], ◌∷◌, length, get_or, set, Option, Some, get_or-set_other, get_or-set_same, length-set}
use Rattle.std.proofs.lemmas.Bool.{cases_Bool, cases_eq, eq-eqb, ne_eqb}
use Rattle.vr_disk.specs.DiskState.{Cell, Face, Waiting, blank, cell, damaged, digit_at, reads, settle, settled, settled_cell, waits}
use Rattle.vr_disk.specs.Sectors.{has}
use Rattle.vr_disk.specs.Stops.{IsLeft}
use Rattle.vr_disk.proofs.Frames.{frame_settled}
use Rattle.vr_disk.proofs.Together.{has_is, is_has}
use Rattle.vr_file.specs.Shown.{OnceAt}

-- ---- the digit by which a sector is left so

abbrev pub digit_for : Cell → Option (List ℕ) → ℕ
digit_for now left = cond (has now.truth left) 1 (cond (has (damaged now.truth) left) 2 0)

pub below_three : (now : Cell) (left : Option (List ℕ)) → digit_for now left < 3
below_three now left = elim (cases_Bool (has now.truth left)) [
  | inl t ↦ rw t (omega arith)
  | inr n ↦ elim (cases_Bool (has (damaged now.truth) left)) [
    | inl u ↦ rw (n, u) (omega arith)
    | inr m ↦ rw (n, m) (omega arith)
  ]
]

not_had : (bytes : List ℕ) (left : Option (List ℕ)) → has bytes left ≡ false → left ≡ Some bytes → true ≡ false
not_had bytes left n e = sym (is_has bytes left e) ∙ n

left_old : (now : Cell) (r left : Option (List ℕ)) → has now.truth left ≡ false → has (damaged now.truth) left ≡ false → IsLeft r now.truth left → r ≡ left
left_old now r left n m (inl e) = sym e
left_old now r left n m (inr (inl e)) = absurd (let x = not_had now.truth left n e in cc)
left_old now r left n m (inr (inr e)) = absurd (let x = not_had (damaged now.truth) left m e in cc)

left_by_digit : (was now : Cell) (left : Option (List ℕ)) → IsLeft was.reads now.truth left → (settled_cell (digit_for now left) was now).reads ≡ left
left_by_digit was now left h = elim (cases_Bool (has now.truth left)) [
  | inl t ↦ rw t (sym (has_is now.truth left t))
  | inr n ↦ elim (cases_Bool (has (damaged now.truth) left)) [
    | inl u ↦ rw (n, u) (sym (has_is (damaged now.truth) left u))
    | inr m ↦ rw (n, m) (left_old now was.reads left n m h)
  ]
]

-- ---- a code with these digits

pub record Coded (digits : ℕ → ℕ) (ws : List Waiting) : Type 0 where
  pub code : ℕ
  pub each : (i : ℕ) → waits i ws ≡ true → digit_at code i ws ≡ digits i

rest_of : (a r : ℕ) → a < 3 → (a + 3 * r) / 3 ≡ r
rest_of a r h = omega arith

digit_of : (a r : ℕ) → a < 3 → (a + 3 * r) % 3 ≡ a
digit_of a r h = omega arith

one_coded : (digits : ℕ → ℕ) (w : Waiting) (ws : List Waiting) (c : Coded digits ws) → digits w.index < 3 → (i : ℕ) → waits i (w ∷ ws) ≡ true → digit_at (digits w.index + 3 * c.code) i (w ∷ ws) ≡ digits i
unfolding digit_at
one_coded digits w ws c h i t = elim (cases_eq w.index i) [
  | inl e ↦ rw (eq-eqb w.index i e) (digit_of (digits w.index) c.code h ∙ ap digits e)
  | inr n ↦ rw (ne_eqb w.index i n, rest_of (digits w.index) c.code h) (c.each i (rw (ne_eqb w.index i n) at t))
]

pub coded : (digits : ℕ → ℕ) → ((i : ℕ) → digits i < 3) → (ws : List Waiting) → Coded digits ws
coded digits h [] = record { code = 0; each = λ i t. absurd cc }
coded digits h (w ∷ ws) =
    let c : Coded digits ws = coded digits h ws in
    record { code = digits w.index + 3 * c.code; each = one_coded digits w ws c (h w.index) }

-- ---- one sector after a stop

-- it waited, and is settled by its digit
pub record Settled (P : Cell → Type 0) (code i : ℕ) (ws : List Waiting) (cells : List Cell) : Type 0 where
  pub was : Cell
  pub passes : P was
  pub so : get_or (settled code ws cells) i blank ≡ settled_cell (digit_at code i ws) was (get_or cells i blank)

settled_first : (P : Cell → Type 0) (code i : ℕ) (w : Waiting) (ws : List Waiting) (cells : List Cell) → i < length cells → w.index ≡ i → P w.was → waits i ws ≡ false → Settled P code i (w ∷ ws) cells
unfolding digit_at
settled_first P code i w ws cells l e p n =
    let c : Cell = settled_cell (code % 3) w.was (get_or cells w.index blank) in
    let same : get_or (settled (code / 3) ws (set cells w.index c)) i blank ≡ c = frame_settled (code / 3) ws (set cells w.index c) i n ∙ ap (λ k. get_or (set cells k c) i blank) e ∙ get_or-set_same cells i c blank l in
    record { was = w.was; passes = p; so = same ∙ rw (eq-eqb w.index i e) (ap (λ k. settled_cell (code % 3) w.was (get_or cells k blank)) e) }

settled_later : (P : Cell → Type 0) (code i : ℕ) (w : Waiting) (ws : List Waiting) (cells : List Cell) → w.index ≢ i
    → Settled P (code / 3) i ws (set cells w.index (settled_cell (code % 3) w.was (get_or cells w.index blank))) → Settled P code i (w ∷ ws) cells
unfolding digit_at
settled_later P code i w ws cells n s =
    let c : Cell = settled_cell (code % 3) w.was (get_or cells w.index blank) in
    let d : i ≢ w.index = λ e. n (sym e) in
    let kept : get_or (set cells w.index c) i blank ≡ get_or cells i blank = get_or-set_other cells w.index i c blank d in
    record { was = s.was; passes = s.passes; so = s.so ∙ rw (ne_eqb w.index i n) (ap (settled_cell (digit_at (code / 3) i ws) s.was) kept) }

pub settled_at : (P : Cell → Type 0) (code i : ℕ) (ws : List Waiting) (cells : List Cell) → i < length cells → waits i ws ≡ true → OnceAt i P ws → Settled P code i ws cells
settled_at P code i [] cells l t o = absurd cc
settled_at P code i (w ∷ ws) cells l t o = elim (cases_eq w.index i) [
  | inl e ↦
      let p : P w.was × (waits i ws ≡ false) = rw (eq-eqb w.index i e) at o in
      settled_first P code i w ws cells l e p.0 p.1
  | inr n ↦
      settled_later P code i w ws cells n (settled_at P (code / 3) i ws (set cells w.index (settled_cell (code % 3) w.was (get_or cells w.index blank))) (rw length-set l) (rw (ne_eqb w.index i n) at t) (rw (ne_eqb w.index i n) at o))
]

pub left_so : (digits : ℕ → ℕ) (code i : ℕ) (g : Face) (left : Option (List ℕ)) → i < length g.cells → waits i g.waiting ≡ true → digit_at code i g.waiting ≡ digit_for (cell g i) left
    → OnceAt i (λ was. IsLeft was.reads (cell g i).truth left) g.waiting → reads (settle code g) i ≡ left
left_so digits code i g left l t e o =
    let s : Settled (λ was. IsLeft was.reads (cell g i).truth left) code i g.waiting g.cells = settled_at _ code i g.waiting g.cells l t o in
    ap (λ (c : Cell). c.reads) s.so ∙ ap (λ k. (settled_cell k s.was (cell g i)).reads) e ∙ left_by_digit s.was (cell g i) left s.passes
