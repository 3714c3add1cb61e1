-- Of lists, and of sets of replicas.
use Rattle.std.proofs.Common.{arith, ℕ, zero, suc, ◌+◌, ◌-◌, ◌<◌, ◌≤◌, ◌≡◌, ◌≢◌, ◌∙◌, ◌⊎◌, inl, inr, refl, sym, ap, subst, Bool, true, false, cond, ◌==◌, List, [], ◌∷◌, ◌++◌, length, map, get_or, set, filter, Some}
use Rattle.std.specs.Prelude.{All, Contains, not, count_by, nat_eq, slice_get}
use Rattle.std.specs.List.{prefix_len, range_with_len}
use Rattle.std.specs.Cmp.Lexicographic.{pointwise}
use Rattle.std.proofs.lemmas.Bool.{cases_eq, cases_lt, eq-eqb, le-ltb, lt-ltb, ne_eqb, true≢false}
use Rattle.std.proofs.lemmas.List.{get_or-set_other, get_or-set_same, get_or_past, length-set}
use Rattle.std.proofs.lemmas.List.Sums.{sum_by-set}
use Rattle.std.proofs.lemmas.List.Elements.{All-contains, All-head, All-tail, Contains-get_or}
use Rattle.std.proofs.lemmas.List.FromFn.{get_or-range_with_len, length-range_with_len}
use Rattle.std.proofs.lemmas.Option.{slice_get-get_or}
use Rattle.vr_base.specs.declared.replicas.Replicas.{Replicas}
use Rattle.vr_base.specs.declared.sum.Sum.{Sum}
use Rattle.vr_base.specs.Replicas.{has_replica, size, with_replica}
use Rattle.vr_msg.specs.Normal.{same_sum}
use Rattle.law_progress.specs.Answering.{AreDistinct, place_beside}

pub All-each : {X : Type 0} (P : X → Type 0) (xs : List X) → ((x : X) → Contains xs x → P x) → All P xs
All-each P xs h = λ k d l. h (get_or xs k d) (Contains-get_or xs k d l)

pub contains_tail : {X : Type 0} (x : X) (xs : List X) (y : X) → Contains xs y → Contains (x ∷ xs) y
contains_tail x xs y there = let l = there.1 in (suc there.0, omega (arith, l), there.2)

pub contains_cases : {X : Type 0} (x : X) (xs : List X) (y : X) → Contains (x ∷ xs) y → (x ≡ y) ⊎ Contains xs y
contains_cases x xs y (zero, l, e) = inl e
contains_cases x xs y (suc k, l, e) = inr (k, omega (arith, l), e)

-- ---- items by their places

pub got_within : {X : Type 0} (xs : List X) (i : ℕ) (x : X) → slice_get xs i ≡ Some x → i < length xs
got_within [] i x e = absurd cc
got_within (y ∷ ys) zero x e = omega arith
got_within (y ∷ ys) (suc i) x e = let rest = got_within ys i x e in omega (arith, rest)

pub got_set : {X : Type 0} (xs : List X) (i : ℕ) (x y : X) → slice_get xs i ≡ Some y → slice_get (set xs i x) i ≡ Some x
got_set [] i x y e = absurd cc
got_set (z ∷ zs) zero x y e = refl
got_set (z ∷ zs) (suc i) x y e = got_set zs i x y e

pub got_other : {X : Type 0} (xs : List X) (i j : ℕ) (x : X) → j ≢ i → slice_get (set xs i x) j ≡ slice_get xs j
got_other [] i j x n = refl
got_other (z ∷ zs) zero zero x n = absurd (n refl)
got_other (z ∷ zs) zero (suc j) x n = refl
got_other (z ∷ zs) (suc i) zero x n = refl
got_other (z ∷ zs) (suc i) (suc j) x n = got_other zs i j x (λ e. n (ap suc e))

pub got_left : {X : Type 0} (xs ys : List X) (i : ℕ) (x : X) → slice_get xs i ≡ Some x → slice_get (xs ++ ys) i ≡ Some x
got_left [] ys i x e = absurd cc
got_left (z ∷ zs) ys zero x e = e
got_left (z ∷ zs) ys (suc i) x e = got_left zs ys i x e

pub got_right : {X : Type 0} (xs ys : List X) (i j : ℕ) → i ≡ length xs + j → slice_get (xs ++ ys) i ≡ slice_get ys j
got_right [] ys i j e = let same : i ≡ j = omega (arith, e) in ap (slice_get ys) same
got_right (z ∷ zs) ys zero j e = absurd (omega (arith, e))
got_right (z ∷ zs) ys (suc i) j e = got_right zs ys i j (omega (arith, e))

pub got_map : {X Y : Type 0} (f : X → Y) (xs : List X) (i : ℕ) (x : X) → slice_get xs i ≡ Some x → slice_get (map f xs) i ≡ Some (f x)
got_map f [] i x e = absurd cc
got_map f (z ∷ zs) zero x e = let same : z ≡ x = cc in ap (λ y. Some (f y)) same
got_map f (z ∷ zs) (suc i) x e = got_map f zs i x e

-- ---- numbers in a row

pub row_at : (a n b : ℕ) → a ≤ b → b < a + n → slice_get (range_with_len a n) (b - a) ≡ Some b
row_at a n b low high =
    slice_get-get_or (range_with_len a n) (b - a) 0 (rw (length-range_with_len a n) (omega (arith, low, high)))
    ∙ ap Some (get_or-range_with_len a n (b - a) 0 (omega (arith, low, high)) ∙ omega (arith, low))

abbrev pub all_but : ℕ → ℕ → ℕ → List ℕ
all_but p a n = filter (λ to. not (to == p)) (range_with_len a n)

none_left : (p a n : ℕ) → p < a → all_but p a n ≡ range_with_len a n
none_left p a zero l = refl
none_left p a (suc n) l =
    rw (ne_eqb a p (λ e. absurd (omega (arith, e, l)))) (ap (λ (xs : List ℕ). a ∷ xs) (none_left p (a + 1) n (omega (arith, l))))

pub but_length : (p a n : ℕ) → a ≤ p → p < a + n → length (all_but p a n) ≡ n - 1
but_length p a zero low high = absurd (omega (arith, low, high))
but_length p a (suc n) low high =
    elim (cases_eq a p) [
      | inl same ↦ rw (eq-eqb a p same) (ap length (none_left p (a + 1) n (omega (arith, same))) ∙ length-range_with_len (a + 1) n ∙ omega arith)
      | inr other ↦
          let rest = but_length p (a + 1) n (omega (arith, low, other)) (omega (arith, high)) in
          rw (ne_eqb a p other) (omega (arith, rest, low, high, other))
    ]

pub but_at : (p a n b : ℕ) → a ≤ p → p < a + n → a ≤ b → b < a + n → b ≢ p → slice_get (all_but p a n) (place_beside p b - a) ≡ Some b
but_at p a zero b low high from upto differs = absurd (omega (arith, low, high))
but_at p a (suc n) b low high from upto differs =
    elim (cases_eq a p) [
      | inl same ↦
          let place : place_beside p b - a ≡ b - (a + 1) = rw (le-ltb b p (omega (arith, same, from))) (omega arith) in
          rw (eq-eqb a p same) (ap (slice_get (all_but p (a + 1) n)) place ∙ ap (λ (xs : List ℕ). slice_get xs (b - (a + 1))) (none_left p (a + 1) n (omega (arith, same)))
          ∙ row_at (a + 1) n b (omega (arith, from, differs, same)) (omega (arith, upto)))
      | inr other ↦ rw (ne_eqb a p other) (elim (cases_eq a b) [
        | inl here ↦
            let place : place_beside p b - a ≡ 0 = rw (lt-ltb b p (omega (arith, low, other, here))) (omega (arith, here)) in
            ap (slice_get (a ∷ all_but p (a + 1) n)) place ∙ ap Some here
        | inr later ↦
            let rest = but_at p (a + 1) n b (omega (arith, low, other)) (omega (arith, high)) (omega (arith, from, later)) (omega (arith, upto)) differs in
            let place : place_beside p b - a ≡ suc (place_beside p b - (a + 1)) = elim (cases_lt b p) [
              | inl before ↦ rw (lt-ltb b p before) (omega (arith, from, later))
              | inr after ↦ rw (le-ltb b p after) (omega (arith, after, differs, low, other))
            ] in
            ap (slice_get (a ∷ all_but p (a + 1) n)) place ∙ rest
      ])
    ]

-- ---- what passes in front

pub front_none : (p : ℕ → Bool) (a n : ℕ) → p a ≡ false → prefix_len p (range_with_len a n) ≡ 0
front_none p a zero e = refl
front_none p a (suc n) e = rw e refl

pub front_some : (p : ℕ → Bool) (a n : ℕ) → 0 < n → p a ≡ true → 0 < prefix_len p (range_with_len a n)
front_some p a zero l e = absurd (omega (arith, l))
front_some p a (suc n) l e = rw e (omega arith)

-- ---- names

same_text : (xs : List ℕ) → pointwise nat_eq xs xs ≡ true
same_text [] = refl
same_text (x ∷ xs) = rw (eq-eqb x x refl) (same_text xs)

pub same_sum_of : (a b : Sum) → a ≡ b → same_sum a b ≡ true
same_sum_of a b e = subst (λ c. same_sum a c ≡ true) e (same_text a.0)

-- ---- sets of replicas

pub with_flags : (s : Replicas) (i : ℕ) → length s.0 ≡ 6 → length (with_replica s i).0 ≡ 6
with_flags s i six = elim (cases_lt i 6) [
  | inl few ↦ rw (lt-ltb i 6 few) (length-set s.0 i true ∙ six)
  | inr many ↦ rw (le-ltb i 6 many) six
]

pub has_new : (s : Replicas) (i : ℕ) → length s.0 ≡ 6 → i < 6 → has_replica (with_replica s i) i ≡ true
has_new s i six few = rw (lt-ltb i 6 few) (get_or-set_same s.0 i true false (omega (arith, six, few)))

pub has_old : (s : Replicas) (i j : ℕ) → length s.0 ≡ 6 → has_replica s j ≡ true → has_replica (with_replica s i) j ≡ true
has_old s i j six there = elim (cases_lt i 6) [
  | inl few ↦ rw (lt-ltb i 6 few) (elim (cases_eq j i) [
    | inl same ↦ rw same (get_or-set_same s.0 i true false (omega (arith, six, few)))
    | inr other ↦ get_or-set_other s.0 i j true false other ∙ there
  ])
  | inr many ↦ rw (le-ltb i 6 many) there
]

one_less : (xs : List Bool) (i : ℕ) → get_or xs i false ≡ true → count_by (λ b. b) xs ≡ suc (count_by (λ b. b) (set xs i false))
one_less xs i e =
    elim (cases_lt i (length xs)) [
      | inl within ↦
          let moved = sum_by-set (λ (b : Bool). cond b 1 0) xs i false false within in
          let n : ℕ = cond (get_or xs i false) 1 0 in
          let one : n ≡ 1 = ap (λ (b : Bool). cond b 1 0) e in
          omega (arith, moved, one)
      | inr past ↦ absurd (true≢false (sym e ∙ get_or_past xs i false past))
    ]

-- so many different ones are counted
counted : (xs : List Bool) (is : List ℕ) → AreDistinct is → All (λ i. get_or xs i false ≡ true) is → length is ≤ count_by (λ b. b) xs
counted xs [] apart all = omega arith
counted xs (i ∷ is) apart all =
    let one = one_less xs i (All-head (λ i. get_or xs i false ≡ true) i is all) in
    let rest = counted (set xs i false) is apart.1 (All-each (λ j. get_or (set xs i false) j false ≡ true) is (λ j there.
    get_or-set_other xs i j false false (λ e. apart.0 (subst (Contains is) e there)) ∙ All-contains (λ i. get_or xs i false ≡ true) is j (All-tail (λ i. get_or xs i false ≡ true) i is all) there)) in
    omega (arith, one, rest)

pub size_most : (s : Replicas) (is : List ℕ) → AreDistinct is → All (λ i. has_replica s i ≡ true) is → length is ≤ size s
size_most s is apart all = counted s.0 is apart all
