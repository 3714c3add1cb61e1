-- Entries with ascending keys, as a map by its hash table sees them: keys in order of which no two are equal.
use Rattle.std.proofs.Common.{◌≡◌, ℕ, zero, suc, ◌+◌, ◌<◌, ◌≤◌, List, [], ◌∷◌, map, length, get_or, true, false, eqb, ltb, refl, sym, ◌∙◌, arith}
use Rattle.std.specs.List.{AllByRecursion, IsDistinct}
use Rattle.std.specs.List.Sorted.{IsSorted}
use Rattle.std.specs.Ordering.{is_lt, nat_cmp}
use Rattle.std.specs.FinMap.Entries.{below_all, is_sorted}
use Rattle.std.proofs.lemmas.Bool.{and_parts, and_from, lt-ltb, le-ltb, ltb-false, ltb-true, eqb-false}
use Rattle.std.proofs.lemmas.Bool.Decides.{nat_tests}
use Rattle.std.proofs.lemmas.Map.Keys.{IsDistinct-head, IsDistinct-tail}
use Rattle.vr_state.specs.Finite.{IsMap}

pub is_lt_nat_cmp : (x y : ℕ) → is_lt (nat_cmp x y) ≡ ltb x y
is_lt_nat_cmp x y = grind (arith, nat_tests)

module _ {X : Type 0} where
  keys : List (ℕ × X) → List ℕ
  keys es = map (λ e. e.0) es

  -- ascending entries have keys in order
  pub keys_in_order : (es : List (ℕ × X)) → IsMap nat_cmp es → IsSorted nat_cmp (map (λ e. e.0) es)
  keys_in_order [] h k d low high = absurd (omega arith)
  keys_in_order (e ∷ []) h k d low high = absurd (omega arith)
  keys_in_order (e ∷ f ∷ es) h zero d low high =
      let parts = and_parts (below_all nat_cmp e.0 (f ∷ es)) (is_sorted nat_cmp (f ∷ es)) h in
      let first = and_parts (is_lt (nat_cmp e.0 f.0)) (below_all nat_cmp e.0 es) parts.0 in
      is_lt_nat_cmp f.0 e.0 ∙ le-ltb f.0 e.0 (let lower = ltb-true e.0 f.0 (sym (is_lt_nat_cmp e.0 f.0) ∙ first.0) in omega arith)
  keys_in_order (e ∷ f ∷ es) h (suc k) d low high =
      let parts = and_parts (below_all nat_cmp e.0 (f ∷ es)) (is_sorted nat_cmp (f ∷ es)) h in
      let next : suc k + 1 ≡ suc (k + 1) = omega arith in
      rw next (keys_in_order (f ∷ es) parts.1 k d (omega arith) (omega arith))

  order_behind : (e : ℕ × X) (es : List (ℕ × X)) → IsSorted nat_cmp (map (λ e. e.0) (e ∷ es)) → IsSorted nat_cmp (map (λ e. e.0) es)
  order_behind e es h k d low high =
      let next : suc k + 1 ≡ suc (k + 1) = omega arith in
      rw next at (h (suc k) d (omega arith) (omega arith))

  -- a key that is at most the first is at most each
  at_most_each : (key : ℕ) (es : List (ℕ × X)) → IsSorted nat_cmp (map (λ e. e.0) es) → ((d : ℕ) → 0 < length es → key ≤ get_or (map (λ e. e.0) es) 0 d) → AllByRecursion (λ e. key ≤ e.0) es
  at_most_each key [] h first = tt
  at_most_each key (e ∷ []) h first = (first 0 (omega arith), tt)
  at_most_each key (e ∷ f ∷ es) h first =
      let here : key ≤ e.0 = first 0 (omega arith) in
      let next : e.0 ≤ f.0 = ltb-false f.0 e.0 (sym (is_lt_nat_cmp f.0 e.0) ∙ h 0 0 (omega arith) (omega arith)) in
      (here, at_most_each key (f ∷ es) (order_behind e (f ∷ es) h) (λ d some. omega arith))

  below_from : (key : ℕ) (es : List (ℕ × X)) → AllByRecursion (λ e. key ≤ e.0) es → AllByRecursion (λ k. eqb key k ≡ false) (map (λ e. e.0) es) → below_all nat_cmp key es ≡ true
  below_from key [] low apart = refl
  below_from key (e ∷ es) low apart =
      let lower : key < e.0 = let differ = eqb-false key e.0 apart.0 in let least = low.0 in omega arith in
      and_from _ _ (is_lt_nat_cmp key e.0 ∙ lt-ltb key e.0 lower) (below_from key es low.1 apart.1)

  -- keys in order of which no two are equal ascend
  pub ascending_from : (es : List (ℕ × X)) → IsSorted nat_cmp (map (λ e. e.0) es) → IsDistinct eqb (map (λ e. e.0) es) → IsMap nat_cmp es
  ascending_from [] order distinct = refl
  ascending_from (e ∷ es) order distinct =
      let low = at_most_each e.0 (e ∷ es) order (λ d some. omega arith) in
      and_from _ _ (below_from e.0 es low.1 (IsDistinct-head eqb e.0 (map (λ e. e.0) es) distinct))
      (ascending_from es (order_behind e es order) (IsDistinct-tail eqb e.0 (map (λ e. e.0) es) distinct))
