-- What a search finds among entries with ascending keys, and what an edit at that place makes of the map.
use Rattle.std.proofs.Common.{◌≡◌, ℕ, zero, suc, ◌<◌, ◌≤◌, List, [], ◌∷◌, length, get_or, set, Some, None, Result, Ok, Err, IfOk, IfErr, true, refl, sym, ◌∙◌, ap, inl, inr, arith}
use Rattle.std.specs.List.{insert, remove}
use Rattle.std.specs.List.Sorted.{IsSearchInRange, IsBinarySearchResult, IsNonDecreasingBy}
use Rattle.std.specs.Ordering.{is_lt, ordering_index, ordering_reverse}
use Rattle.std.specs.declared.cmp.Ordering.{Ordering}
use Rattle.std.specs.declared.cmp.Ordering.TheVariants.{Less, Equal, Greater}
use Rattle.std.specs.Cmp.{IsTotalOrder, tied_back, alike_right}
use Rattle.std.specs.FinMap.Entries.{below_all, find, put, is_sorted}
use Rattle.std.proofs.lemmas.Bool.{and_parts, cases_lt}
use Rattle.vr_state.specs.Finite.{without, IsMap}
use Rattle.vr_state.proofs.Maps.{less}
use Rattle.vr_state.specs.Places.{IsAt, IsGap}

rank_le_top : (o : Ordering) → ordering_index o ≤ 2
rank_le_top Less = omega arith
rank_le_top Equal = omega arith
rank_le_top Greater = omega arith

module _ {K : Type 0} (order : K → K → Ordering) (total : IsTotalOrder order) where
  -- a lower key compares no higher
  rank_le : (x y key : K) → order x y ≡ Less → ordering_index (order x key) ≤ ordering_index (order y key)
  rank_le x y key lower =
      let cases : (o : Ordering) → order y key ≡ o → ordering_index (order x key) ≤ ordering_index o = elim [
        | Less ↦ λ is. rw (total.trans x y key lower is) (omega arith)
        | Equal ↦ λ is. rw (sym (alike_right total y key x is) ∙ lower) (omega arith)
        | Greater ↦ λ is. rank_le_top (order x key)
      ] in
      cases (order y key) refl

  -- the other way round
  turned : (x y : K) (o : Ordering) → order x y ≡ o → order y x ≡ ordering_reverse o
  turned x y o is = total.antisymm y x ∙ ap ordering_reverse is

module _ {K V : Type 0} (order : K → K → Ordering) (total : IsTotalOrder order) where
  below_at : (x : K) (es : List (K × V)) → below_all order x es ≡ true → (i : ℕ) (d : K × V) → i < length es → order x (get_or es i d).0 ≡ Less
  below_at x [] h i d within = absurd (omega arith)
  below_at x (e ∷ es) h zero d within = less (order x e.0) (and_parts (is_lt (order x e.0)) (below_all order x es) h).0
  below_at x (e ∷ es) h (suc i) d within = below_at x es (and_parts (is_lt (order x e.0)) (below_all order x es) h).1 i d (omega arith)

  behind : (e : K × V) (es : List (K × V)) → IsMap order (e ∷ es) → (below_all order e.0 es ≡ true) × IsMap order es
  behind e es h = and_parts (below_all order e.0 es) (is_sorted order es) h

  -- of two places the later has the higher key
  ascending : (es : List (K × V)) → IsMap order es → (i j : ℕ) (d : K × V) → i < j → j < length es → order (get_or es i d).0 (get_or es j d).0 ≡ Less
  ascending [] h i j d before within = absurd (omega arith)
  ascending (e ∷ es) h i zero d before within = absurd (omega arith)
  ascending (e ∷ es) h zero (suc j) d before within = below_at e.0 es (behind e es h).0 j d (omega arith)
  ascending (e ∷ es) h (suc i) (suc j) d before within = ascending es (behind e es h).1 i j d (omega arith) (omega arith)

  ranks_rise : (es : List (K × V)) → IsMap order es → (key : K) → IsNonDecreasingBy (λ e. ordering_index (order e.0 key)) es
  ranks_rise es h key i j d before within = elim (cases_lt i j) [
    | inl apart ↦ rank_le order total (get_or es i d).0 (get_or es j d).0 key (ascending es h i j d apart within)
    | inr same ↦ let e : i ≡ j = omega arith in rw e (omega arith)
  ]

  pub searched : (es : List (K × V)) → IsMap order es → (key : K) (r : Result ℕ ℕ) → IsSearchInRange r (length es) → IsBinarySearchResult (λ e. order e.0 key) es r
      → IfOk r (IsAt order key es) × IfErr r (IsGap order key es)
  searched es h key (Ok i) within found = (record { in_range = within; has_key = found }, tt)
  searched es h key (Err i) within parted =
      let halves = parted (ranks_rise es h key) in
      (tt, record { in_range = within; below = λ j d before. halves.0 j d (omega arith) before; above = λ j d behind within. halves.1 j d behind within })

  at_behind : (key : K) (e : K × V) (es : List (K × V)) (i : ℕ) → IsAt order key (e ∷ es) (suc i) → IsAt order key es i
  at_behind key e es i at = record { in_range = omega (arith, at.in_range); has_key = λ d. at.has_key d }

  first_is_below : (key : K) (e : K × V) (es : List (K × V)) (i : ℕ) → IsMap order (e ∷ es) → IsAt order key (e ∷ es) (suc i) → order key e.0 ≡ Greater
  first_is_below key e es i h at =
      let lower = below_at e.0 es (behind e es h).0 i e (omega (arith, at.in_range)) in
      turned order total e.0 key Less (sym (alike_right total (get_or es i e).0 key e.0 (at.has_key e)) ∙ lower)

  pub find_at : (key : K) (es : List (K × V)) (i : ℕ) (d : K × V) → IsMap order es → IsAt order key es i → find order key es ≡ Some (get_or es i d).1
  find_at key [] i d h at = absurd (omega (arith, at.in_range))
  find_at key (e ∷ es) zero d h at = rw (tied_back total e.0 key (at.has_key d)) refl
  find_at key (e ∷ es) (suc i) d h at = rw (first_is_below key e es i h at) (find_at key es i d (behind e es h).1 (at_behind key e es i at))

  -- the key takes a new value in its place
  pub put_at : (key : K) (v : V) (es : List (K × V)) (i : ℕ) (d : K × V) → IsMap order es → IsAt order key es i → put order key v es ≡ set es i ((get_or es i d).0, v)
  put_at key v [] i d h at = absurd (omega (arith, at.in_range))
  put_at key v (e ∷ es) zero d h at = rw (tied_back total e.0 key (at.has_key d)) refl
  put_at key v (e ∷ es) (suc i) d h at = rw (first_is_below key e es i h at) (ap (λ xs. e ∷ xs) (put_at key v es i d (behind e es h).1 (at_behind key e es i at)))

  kept_above : (key : K) (es : List (K × V)) → below_all order key es ≡ true → without order key es ≡ es
  kept_above key [] h = refl
  kept_above key (e ∷ es) h =
      let parts = and_parts (is_lt (order key e.0)) (below_all order key es) h in
      rw (less (order key e.0) parts.0) (ap (λ xs. e ∷ xs) (kept_above key es parts.1))

  below_tied : (x y : K) (es : List (K × V)) → order x y ≡ Equal → below_all order y es ≡ true → below_all order x es ≡ true
  below_tied x y [] same h = refl
  below_tied x y (e ∷ es) same h =
      let parts = and_parts (is_lt (order y e.0)) (below_all order y es) h in
      rw (total.congr x y e.0 same, parts.0) (below_tied x y es same parts.1)

  -- without the key its entry is gone
  pub without_at : (key : K) (es : List (K × V)) (i : ℕ) → IsMap order es → IsAt order key es i → without order key es ≡ remove es i
  without_at key [] i h at = absurd (omega (arith, at.in_range))
  without_at key (e ∷ es) zero h at =
      let same = tied_back total e.0 key (at.has_key e) in
      rw same (kept_above key es (below_tied key e.0 es same (behind e es h).0))
  without_at key (e ∷ es) (suc i) h at = rw (first_is_below key e es i h at) (ap (λ xs. e ∷ xs) (without_at key es i (behind e es h).1 (at_behind key e es i at)))

  gap_behind : (key : K) (e : K × V) (es : List (K × V)) (i : ℕ) → IsGap order key (e ∷ es) (suc i) → IsGap order key es i
  gap_behind key e es i gap = record {
    in_range = omega (arith, gap.in_range);
    below = λ j d before. gap.below (suc j) d (omega arith);
    above = λ j d behind within. gap.above (suc j) d (omega arith) (omega arith);
  }

  gap_first : (key : K) (e : K × V) (es : List (K × V)) → IsGap order key (e ∷ es) zero → IsGap order key es zero
  gap_first key e es gap = record {
    in_range = omega arith;
    below = λ j d before. absurd (omega arith);
    above = λ j d behind within. gap.above (suc j) d (omega arith) (omega arith);
  }

  above_first : (key : K) (e : K × V) (es : List (K × V)) → IsGap order key (e ∷ es) zero → order key e.0 ≡ Less
  above_first key e es gap = turned order total e.0 key Greater (gap.above 0 e (omega arith) (omega arith))

  below_first : (key : K) (e : K × V) (es : List (K × V)) (i : ℕ) → IsGap order key (e ∷ es) (suc i) → order key e.0 ≡ Greater
  below_first key e es i gap = turned order total e.0 key Less (gap.below 0 e (omega arith))

  pub find_gap : (key : K) (es : List (K × V)) (i : ℕ) → IsGap order key es i → find order key es ≡ None
  find_gap key [] i gap = refl
  find_gap key (e ∷ es) zero gap = rw (above_first key e es gap) (find_gap key es zero (gap_first key e es gap))
  find_gap key (e ∷ es) (suc i) gap = rw (below_first key e es i gap) (find_gap key es i (gap_behind key e es i gap))

  -- a new key goes into its gap
  pub put_gap : (key : K) (v : V) (es : List (K × V)) (i : ℕ) → IsGap order key es i → put order key v es ≡ insert es i (key, v)
  put_gap key v [] zero gap = refl
  put_gap key v [] (suc i) gap = absurd (omega (arith, gap.in_range))
  put_gap key v (e ∷ es) zero gap = rw (above_first key e es gap) refl
  put_gap key v (e ∷ es) (suc i) gap = rw (below_first key e es i gap) (ap (λ xs. e ∷ xs) (put_gap key v es i (gap_behind key e es i gap)))
