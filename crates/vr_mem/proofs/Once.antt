-- Fewer sectors wait than there are, where one doesn't.
use Rattle.std.proofs.Common.{ℕ, zero, suc, ◌+◌, ◌≤◌, ◌<◌, ◌≡◌, inl, inr, arith, refl, sym, Bool, true, false, cond, eqb, ltb, ◌||◌, not, List, [], ◌∷◌, ◌++◌, length}
use Rattle.std.specs.List.{list_any, All, AllByRecursion}
use Rattle.std.proofs.lemmas.Bool.{and_parts, not-true, or_parts, cases_lt, cases_eq, eq-eqb, ne_eqb, eqb-false, lt-ltb, le-ltb}
use Rattle.std.proofs.lemmas.List.Elements.{recursion_from_All}
use Rattle.std.proofs.lemmas.List.Folds.{list_any-append}
use Rattle.vr_disk.specs.DiskState.{Waiting}
use Rattle.vr_mem.specs.Seen.{once}

abbrev waits_at : List Waiting → ℕ → Bool
waits_at ws j = list_any (λ x. eqb x.index j) ws

abbrev count : (ℕ → Bool) → ℕ → ℕ
count f zero = 0
count f (suc n) = count f n + cond (f n) 1 0

abbrev Below : ℕ → List Waiting → Type 0
Below n [] = Unit {0}
Below n (w ∷ ws) = (w.index < n) × Below n ws

count_none : (n : ℕ) → count (λ j. false) n ≡ 0
count_none zero = refl
count_none (suc n) = grind (arith, count_none n)

-- one more member
count_more : (f : ℕ → Bool) (i n : ℕ) → f i ≡ false → count (λ j. eqb i j || f j) n ≡ count f n + cond (ltb i n) 1 0
count_more f i zero h = rw (le-ltb i 0 (omega arith)) refl
count_more f i (suc n) h =
    let rest = count_more f i n h in
    elim (cases_eq i n) [
      | inl e ↦
          let h' : f n ≡ false = rw e at h in
          rw (eq-eqb i n e, h', lt-ltb i (suc n) (omega arith)) (let l = le-ltb i n (omega arith) in grind (arith, rest, l))
      | inr d ↦ rw (ne_eqb i n d)
          (elim (cases_lt i n) [
            | inl l ↦ rw (lt-ltb i (suc n) (omega arith)) (let l' = lt-ltb i n l in grind (arith, rest, l'))
            | inr g ↦ rw (le-ltb i (suc n) (omega arith)) (let l' = le-ltb i n g in grind (arith, rest, l'))
          ])
    ]

count_waits : (n : ℕ) (ws : List Waiting) → once ws ≡ true → Below n ws → count (waits_at ws) n ≡ length ws
count_waits n [] o b = count_none n
count_waits n (w ∷ ws) o b =
    let p = and_parts (not (waits_at ws w.index)) (once ws) o in
    let more = count_more (waits_at ws) w.index n (not-true (waits_at ws w.index) p.0) in
    let rest = count_waits n ws p.1 b.1 in
    let lt = lt-ltb w.index n b.0 in
    grind (arith, more, rest, lt)

count_le : (f : ℕ → Bool) (n : ℕ) → count f n ≤ n
count_le f zero = omega arith
count_le f (suc n) = grind (arith, count_le f n)

count_lt : (f : ℕ → Bool) (n i : ℕ) → i < n → f i ≡ false → count f n < n
count_lt f zero i l h = absurd (omega arith)
count_lt f (suc n) i l h =
    let le = count_le f n in
    elim (cases_eq i n) [
      | inl e ↦ let h' : f n ≡ false = rw e at h in grind (arith, h', le)
      | inr d ↦ let r = count_lt f n i (omega arith) h in grind (arith, r)
    ]

below : (n : ℕ) (ws : List Waiting) → AllByRecursion (λ (w : Waiting). w.index < n) ws → Below n ws
below n [] h = tt
below n (w ∷ ws) h = (h.0, below n ws h.1)

pub once_push : (ws : List Waiting) (w : Waiting) → once ws ≡ true → waits_at ws w.index ≡ false → once (ws ++ w ∷ []) ≡ true
once_push [] w o h = refl
once_push (x ∷ ws) w o h =
    let p = and_parts (not (waits_at ws x.index)) (once ws) o in
    let q = or_parts (eqb x.index w.index) (waits_at ws w.index) h in
    let other : (w.index ≡ x.index → ⊥) = λ e. eqb-false x.index w.index q.0 (sym e) in
    let none : waits_at (ws ++ w ∷ []) x.index ≡ false = rw (list_any-append, ne_eqb w.index x.index other, not-true (waits_at ws x.index) p.0) refl in
    rw (none, once_push ws w p.1 q.1) refl

pub room_left : (n : ℕ) (ws : List Waiting) (i : ℕ) → once ws ≡ true → All (λ (w : Waiting). w.index < n) ws → i < n → waits_at ws i ≡ false → length ws < n
room_left n ws i o b l h = let c = count_waits n ws o (below n ws (recursion_from_All (λ (w : Waiting). w.index < n) ws b)) in let t = count_lt (waits_at ws) n i l h in omega arith
