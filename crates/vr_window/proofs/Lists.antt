-- Lists of Parts.
use Rattle.std.proofs.Common.{arith, ℕ, zero, suc, ◌+◌, ◌-◌, ◌≤◌, ◌<◌, ◌≡◌, refl, sym, ap, inl, inr, true, false, List, [], ◌∷◌, ◌++◌, length, take, drop, get_or, set, add-one, append-nil, append_assoc, ◌∙◌, replicate, slice_get, Option, Some, None}
use Rattle.std.specs.Prelude.{take_while, filter_map, reverse}
use Rattle.std.specs.List.{prefix_len}
use Rattle.std.proofs.lemmas.Bool.{cases_lt}
use Rattle.std.proofs.lemmas.List.{drop_all, drop-append-le, reverse-append, get_or_past, length-append, length-replicate, length-drop, length-take, length-take-le}
use Rattle.std.proofs.lemmas.List.Elements.{filter_map-append}
use Rattle.std.proofs.lemmas.List.Sums.{take_while-cons}
use Rattle.vr_header.specs.declared.header.Header.{Header}
use Rattle.vr_header.specs.declared.part.Part.{Part}
use Rattle.vr_header.specs.declared.part.Part.TheVariants.{Here, Lost, Wanted, Unknown, Nothing}
use Rattle.vr_header.specs.Parts.{has_header, header_of}
use Rattle.vr_window.specs.Runs.{run_of}

pub known_more : (xs : List Part) (i : ℕ) → has_header (get_or xs i Nothing) ≡ true → prefix_len has_header (drop i xs) ≡ 1 + prefix_len has_header (drop (i + 1) xs)
known_more [] i e = absurd cc
known_more (x ∷ xs) zero e = rw e (omega arith)
known_more (x ∷ xs) (suc i) e = rw add-one (rw add-one at (known_more xs i e))

pub known_stops : (xs : List Part) (i : ℕ) → has_header (get_or xs i Nothing) ≡ false → prefix_len has_header (drop i xs) ≡ 0
known_stops [] zero e = refl
known_stops [] (suc i) e = refl
known_stops (x ∷ xs) zero e = rw e refl
known_stops (x ∷ xs) (suc i) e = known_stops xs i e

pub known_past : (xs : List Part) (i : ℕ) → length xs ≤ i → prefix_len has_header (drop i xs) ≡ 0
known_past xs i l = rw (drop_all i xs l) refl

-- ---- items

pub past_is : {X : Type 0} (xs : List X) (i : ℕ) (d : X) → None ≡ slice_get xs i → get_or xs i d ≡ d
past_is [] i d e = refl
past_is (x ∷ xs) zero d e = absurd cc
past_is (x ∷ xs) (suc i) d e = past_is xs i d e

pub found_is : {X : Type 0} (xs : List X) (i : ℕ) (d x : X) → Some x ≡ slice_get xs i → get_or xs i d ≡ x
found_is [] i d x e = absurd cc
found_is (y ∷ xs) zero d x e = let same : x ≡ y = cc in rw same refl
found_is (y ∷ xs) (suc i) d x e = found_is xs i d x e

-- the first items are replaced, one after the other
pub fill_more : {X : Type 0} (xs : List X) (i : ℕ) (x : X) → i < length xs → set (replicate i x ++ drop i xs) i x ≡ replicate (i + 1) x ++ drop (i + 1) xs
fill_more [] i x l = absurd (omega arith)
fill_more (y ∷ ys) zero x l = refl
fill_more (y ∷ ys) (suc i) x l = rw add-one (ap (λ zs. x ∷ zs) (rw add-one at (fill_more ys i x (omega arith))))

pub fill_ends : {X : Type 0} (xs : List X) (i : ℕ) (x : X) → i ≡ length xs → replicate i x ++ drop i xs ≡ replicate (length xs) x
fill_ends xs i x e = rw (e, drop_all (length xs) xs (omega arith), append-nil (replicate (length xs) x)) refl

pub fill_length : {X : Type 0} (xs : List X) (i : ℕ) (x : X) → i ≤ length xs → length (replicate i x ++ drop i xs) ≡ length xs
fill_length xs i x l = let a = length-append (replicate i x) (drop i xs) in let b = length-replicate i x in let c = length-drop i xs in omega (arith, a, b, c)

pub more_none : {X : Type 0} (xs : List X) (x : X) → xs ++ replicate 0 x ≡ xs
more_none xs x = append-nil xs

row_more : {X : Type 0} (i : ℕ) (x : X) → replicate i x ++ x ∷ [] ≡ replicate (i + 1) x
row_more zero x = refl
row_more (suc i) x = rw add-one (ap (λ zs. x ∷ zs) (rw add-one at (row_more i x)))

pub more_one : {X : Type 0} (xs : List X) (i : ℕ) (x : X) → (xs ++ replicate i x) ++ x ∷ [] ≡ xs ++ replicate (i + 1) x
more_one xs i x = append_assoc xs (replicate i x) (x ∷ []) ∙ ap (λ zs. xs ++ zs) (row_more i x)

-- ---- what a buffer keeps

-- one more item, where there is room
pub all_kept : {X : Type 0} (xs : List X) (x : X) → length xs < 128 → drop (length (xs ++ x ∷ []) - 128) (xs ++ x ∷ []) ≡ xs ++ x ∷ []
all_kept xs x l = let n = length-append xs (x ∷ []) in let e : length (xs ++ x ∷ []) - 128 ≡ 0 = omega (arith, n) in rw e refl

-- the last ones
pub last_kept : {X : Type 0} (xs : List X) (n : ℕ) → drop (length xs - (length xs - n)) xs ≡ drop n xs
last_kept xs n = elim (cases_lt n (length xs)) [
  | inl below ↦ let e : length xs - (length xs - n) ≡ n = omega arith in rw e refl
  | inr past ↦ let e : length xs - (length xs - n) ≡ length xs = omega arith in rw (e, drop_all n xs past, drop_all (length xs) xs (omega arith)) refl
]

pub more_length : {X : Type 0} (xs : List X) (i : ℕ) (x : X) → length (xs ++ replicate i x) ≡ length xs + i
more_length xs i x = let a = length-append xs (replicate i x) in let b = length-replicate i x in omega (arith, a, b)

-- ---- runs

take_more : (xs : List Part) (i : ℕ) → i < length xs → take (i + 1) xs ≡ take i xs ++ get_or xs i Nothing ∷ []
take_more [] i l = absurd (omega arith)
take_more (x ∷ xs) zero l = refl
take_more (x ∷ xs) (suc i) l = rw add-one (ap (λ ys. x ∷ ys) (rw add-one at (take_more xs i (omega arith))))

back_more : (xs : List Part) (i : ℕ) → i < length xs → reverse (take (i + 1) xs) ≡ get_or xs i Nothing ∷ reverse (take i xs)
back_more xs i l = rw (take_more xs i l, reverse-append (take i xs) (get_or xs i Nothing ∷ [])) refl

pub run_none : (xs : List Part) → run_of 0 xs ≡ []
unfolding run_of
run_none xs = refl

one_more : (p : Part) (h : Header) (ps : List Part) → header_of p ≡ Some h → filter_map header_of (take_while has_header (p ∷ ps)) ≡ h ∷ filter_map header_of (take_while has_header ps)
one_more (Here g) h ps e = let same : g ≡ h = cc in rw (take_while-cons has_header (Here g) ps, same) refl
one_more (Lost g) h ps e = let same : g ≡ h = cc in rw (take_while-cons has_header (Lost g) ps, same) refl
one_more (Wanted g) h ps e = let same : g ≡ h = cc in rw (take_while-cons has_header (Wanted g) ps, same) refl
one_more Unknown h ps e = absurd cc
one_more Nothing h ps e = absurd cc

none_more : (p : Part) (ps : List Part) → header_of p ≡ None → take_while has_header (p ∷ ps) ≡ []
none_more (Here g) ps e = absurd cc
none_more (Lost g) ps e = absurd cc
none_more (Wanted g) ps e = absurd cc
none_more Unknown ps e = refl
none_more Nothing ps e = refl

pub run_more : (xs : List Part) (i : ℕ) (h : Header) → header_of (get_or xs i Nothing) ≡ Some h → run_of (i + 1) xs ≡ run_of i xs ++ h ∷ []
unfolding run_of
run_more xs i h e =
    elim (cases_lt i (length xs)) [
      | inl l ↦
          rw (back_more xs i l, one_more (get_or xs i Nothing) h (reverse (take i xs)) e)
          (reverse-append (h ∷ []) (filter_map header_of (take_while has_header (reverse (take i xs)))))
      | inr past ↦ let none : get_or xs i Nothing ≡ Nothing = get_or_past xs i Nothing past in absurd cc
    ]

pub run_stops : (xs : List Part) (i : ℕ) → i < length xs → header_of (get_or xs i Nothing) ≡ None → run_of (i + 1) xs ≡ []
unfolding run_of
run_stops xs i l e = rw (back_more xs i l, none_more (get_or xs i Nothing) (reverse (take i xs)) e) refl

-- how many they are

pub length_none : (xs : List Part) → 0 ≡ length (run_of 0 xs)
length_none xs = rw (run_none xs) refl

pub length_more : (xs : List Part) (i : ℕ) (h : Header) → header_of (get_or xs i Nothing) ≡ Some h → length (run_of (i + 1) xs) ≡ length (run_of i xs) + 1
length_more xs i h e = rw (run_more xs i h e) (length-append (run_of i xs) (h ∷ []))

pub length_stops : (xs : List Part) (i : ℕ) → i < length xs → header_of (get_or xs i Nothing) ≡ None → length (run_of (i + 1) xs) ≡ 0
length_stops xs i l e = rw (run_stops xs i l e) refl

pub ruleset runs = (length_none, length_more, length_stops)

-- the headers from a place on, one after the other

pub row_none : (xs : List Part) (i : ℕ) → [] ≡ filter_map header_of (drop i (take i xs))
row_none xs i = let n = length-take i xs in rw (drop_all i (take i xs) (omega (arith, n))) refl

row_one : (xs : List Part) (from i : ℕ) → from ≤ i → i < length xs
    → filter_map header_of (drop from (take (i + 1) xs)) ≡ filter_map header_of (drop from (take i xs)) ++ filter_map header_of (get_or xs i Nothing ∷ [])
row_one xs from i a l =
    let n : length (take i xs) ≡ i = length-take-le i xs (omega arith) in
    rw (take_more xs i l, drop-append-le from (take i xs) (get_or xs i Nothing ∷ []) (omega (arith, n)))
    (filter_map-append header_of (drop from (take i xs)) (get_or xs i Nothing ∷ []))

one_header : (p : Part) (h : Header) → header_of p ≡ Some h → filter_map header_of (p ∷ []) ≡ h ∷ []
one_header p h e = rw e refl

no_header : (p : Part) → header_of p ≡ None → filter_map header_of (p ∷ []) ≡ []
no_header p e = rw e refl

pub row_knows : (xs : List Part) (from i : ℕ) (h : Header) → from ≤ i → i < length xs → header_of (get_or xs i Nothing) ≡ Some h
    → filter_map header_of (drop from (take i xs)) ++ h ∷ [] ≡ filter_map header_of (drop from (take (i + 1) xs))
row_knows xs from i h a l e = sym (row_one xs from i a l ∙ rw (one_header (get_or xs i Nothing) h e) refl)

pub row_lacks : (xs : List Part) (from i : ℕ) → from ≤ i → i < length xs → header_of (get_or xs i Nothing) ≡ None
    → filter_map header_of (drop from (take i xs)) ≡ filter_map header_of (drop from (take (i + 1) xs))
row_lacks xs from i a l e = sym (row_one xs from i a l ∙ rw (no_header (get_or xs i Nothing) e, append-nil (filter_map header_of (drop from (take i xs)))) refl)

-- The run's headers are those of as many of the last of the first items.

within_more : (xs : List Part) (n : ℕ) → n < length xs → length (run_of n xs) ≤ n → length (run_of (n + 1) xs) ≤ n + 1
within_more xs n l few =
    let cases : (o : Option Header) → header_of (get_or xs n Nothing) ≡ o → length (run_of (n + 1) xs) ≤ n + 1 = elim [
      | None ↦ λ e. let none = length_stops xs n l e in omega (arith, none)
      | Some h ↦ λ e. let more = length_more xs n h e in omega (arith, more, few)
    ] in cases (header_of (get_or xs n Nothing)) refl

run_within : (xs : List Part) (n : ℕ) → n ≤ length xs → length (run_of n xs) ≤ n
run_within xs zero l = let none = length_none xs in omega (arith, none)
run_within xs (suc n) l =
    let next : suc n ≡ n + 1 = omega arith in
    rw next (within_more xs n (omega arith) (run_within xs n (omega arith)))

-- the headers of the last items, as many as the run has
abbrev tail_of : List Part → ℕ → List Header
tail_of xs n = filter_map header_of (drop (n - length (run_of n xs)) (take n xs))

tail_more : (xs : List Part) (n : ℕ) → n < length xs → length (run_of n xs) ≤ n → tail_of xs n ≡ run_of n xs → tail_of xs (n + 1) ≡ run_of (n + 1) xs
tail_more xs n l few rest =
    let cases : (o : Option Header) → header_of (get_or xs n Nothing) ≡ o → tail_of xs (n + 1) ≡ run_of (n + 1) xs = elim [
      | None ↦ λ e.
          let none = length_stops xs n l e in
          let all : n + 1 - length (run_of (n + 1) xs) ≡ n + 1 = omega (arith, none) in
          rw (all, run_stops xs n l e) (sym (row_none xs (n + 1)))
      | Some h ↦ λ e.
          let more = length_more xs n h e in
          let same : n + 1 - length (run_of (n + 1) xs) ≡ n - length (run_of n xs) = omega (arith, more, few) in
          rw (same, ← row_knows xs (n - length (run_of n xs)) n h (omega arith) l e, run_more xs n h e) (ap (λ (hs : List Header). hs ++ h ∷ []) rest)
    ] in cases (header_of (get_or xs n Nothing)) refl

tail_is : (xs : List Part) (n : ℕ) → n ≤ length xs → tail_of xs n ≡ run_of n xs
tail_is xs zero l = rw (run_none xs) refl
tail_is xs (suc n) l =
    let next : suc n ≡ n + 1 = omega arith in
    rw next (tail_more xs n (omega arith) (run_within xs n (omega arith)) (tail_is xs n (omega arith)))

pub row_ends : (xs : List Part) (from i n : ℕ) → n ≤ length xs → from ≡ n - length (run_of n xs) → i ≡ n → filter_map header_of (drop from (take i xs)) ≡ run_of n xs
row_ends xs from i n l e k = rw (k, e) (tail_is xs n l)

pub ruleset rows = (row_none, row_knows, row_lacks, row_ends)

pub places_more : {X : Type 0} (i : ℕ) (x : X) → replicate i x ++ x ∷ [] ≡ replicate (i + 1) x
places_more i x = more_one [] i x
