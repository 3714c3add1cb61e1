-- Finite maps as lists of entries with ascending keys.
use Rattle.std.proofs.Common.{◌≡◌, suc, ◌-◌, List, [], ◌∷◌, ◌++◌, length, Option, Bool, true, false, ◌&&◌, T, slice_get, refl, sym, ◌∙◌, ap, arith}
use Rattle.std.specs.Option.{option_map_or}
use Rattle.std.specs.Ordering.{is_lt}
use Rattle.std.specs.declared.cmp.Ordering.{Ordering}
use Rattle.std.specs.declared.cmp.Ordering.TheVariants.{Less, Equal, Greater}
use Rattle.std.specs.Cmp.{IsTotalOrder}
use Rattle.std.specs.FinMap.Entries.{below_all, is_sorted}
use Rattle.std.proofs.lemmas.Bool.{and_parts, and_from, true≢false}
use Rattle.vr_state.specs.Finite.{IsMap}

pub T_true : (b : Bool) → b ≡ true → T b
T_true true e = tt
T_true false e = absurd (true≢false (sym e))

pub true_T : (b : Bool) → T b → b ≡ true
true_T true t = refl
true_T false t = absurd t

pub same_true : (b c : Bool) → (b ≡ true → c ≡ true) → (c ≡ true → b ≡ true) → b ≡ c
same_true true c f g = sym (f refl)
same_true false true f g = g refl
same_true false false f g = refl

pub less : (o : Ordering) → is_lt o ≡ true → o ≡ Less
less Less e = refl
less Equal e = absurd (true≢false (sym e))
less Greater e = absurd (true≢false (sym e))

module _ {K V : Type 0} (order : K → K → Ordering) where
  below_front : (k : K) (xs ys : List (K × V)) → below_all order k (xs ++ ys) ≡ true → below_all order k xs ≡ true
  below_front k [] ys h = refl
  below_front k (x ∷ xs) ys h =
      let parts = and_parts (is_lt (order k x.0)) (below_all order k (xs ++ ys)) h in
      and_from _ _ parts.0 (below_front k xs ys parts.1)

  -- the first entries of a map are a map
  pub IsMap-front : (xs ys : List (K × V)) → IsMap order (xs ++ ys) → IsMap order xs
  IsMap-front [] ys h = refl
  IsMap-front (x ∷ xs) ys h =
      let parts = and_parts (below_all order x.0 (xs ++ ys)) (is_sorted order (xs ++ ys)) h in
      and_from _ _ (below_front x.0 xs ys parts.0) (IsMap-front xs ys parts.1)

  -- the key that an entry must stand above
  abbrev pub rises : List (K × V) → K × V → Bool
  rises es e = option_map_or (λ d. is_lt (order d.0 e.0)) (slice_get es (length es - 1)) true

  last_more : (d c : K × V) (ds : List (K × V)) → slice_get (d ∷ c ∷ ds) (length (d ∷ c ∷ ds) - 1) ≡ slice_get (c ∷ ds) (length (c ∷ ds) - 1)
  last_more d c ds =
      let e : length (d ∷ c ∷ ds) - 1 ≡ suc (length (c ∷ ds) - 1) = omega arith in
      ap (slice_get (d ∷ c ∷ ds)) e

  module _ (total : IsTotalOrder order) where
    below_more : (k : K) (x e : K × V) (xs : List (K × V)) → is_lt (order k x.0) ≡ true → below_all order x.0 (xs ++ e ∷ []) ≡ true → below_all order k (xs ++ e ∷ []) ≡ true
    below_more k x e [] h g =
        let parts = and_parts (is_lt (order x.0 e.0)) true g in
        and_from _ _ (ap is_lt (total.trans k x.0 e.0 (less _ h) (less _ parts.0))) refl
    below_more k x e (y ∷ ys) h g =
        let parts = and_parts (is_lt (order x.0 y.0)) (below_all order x.0 (ys ++ e ∷ [])) g in
        and_from _ _ (ap is_lt (total.trans k x.0 y.0 (less _ h) (less _ parts.0))) (below_more k x e ys h parts.1)

    -- after a map an entry stands in order exactly where it stands above the last
    pub IsMap-push : (es : List (K × V)) (e : K × V) → IsMap order es → is_sorted order (es ++ e ∷ []) ≡ rises es e
    IsMap-push [] e h = refl
    IsMap-push (d ∷ []) e h = elim (is_lt (order d.0 e.0)) as (λ b. ((b && true) && true) ≡ b) [ true ↦ refl | false ↦ refl ]
    IsMap-push (d ∷ c ∷ ds) e h =
        let parts = and_parts (below_all order d.0 (c ∷ ds)) (is_sorted order (c ∷ ds)) h in
        let above = and_parts (is_lt (order d.0 c.0)) (below_all order d.0 ds) parts.0 in
        let later = IsMap-push (c ∷ ds) e parts.1 in
        same_true _ _
        (λ s. let both = and_parts (below_all order d.0 (c ∷ ds ++ e ∷ [])) (is_sorted order (c ∷ ds ++ e ∷ [])) s in
        ap (λ (o : Option (K × V)). option_map_or (λ d. is_lt (order d.0 e.0)) o true) (last_more d c ds) ∙ (sym later ∙ both.1))
        (λ r.
        let rest : is_sorted order (c ∷ ds ++ e ∷ []) ≡ true = later ∙ (ap (λ (o : Option (K × V)). option_map_or (λ d. is_lt (order d.0 e.0)) o true) (sym (last_more d c ds)) ∙ r) in
        let behind = and_parts (below_all order c.0 (ds ++ e ∷ [])) (is_sorted order (ds ++ e ∷ [])) rest in
        and_from _ _ (and_from _ _ above.0 (below_more d.0 c e ds above.0 behind.0)) rest)
