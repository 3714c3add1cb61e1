-- What a map by its hash table finds and changes, in the words of maps with ascending keys.
use Rattle.std.proofs.Common.{◌≡◌, ℕ, ◌<◌, List, [], ◌∷◌, ◌++◌, map, Some, Bool, true, false, not, eqb, cond, refl, sym, ◌∙◌, ap, subst, arith}
use Rattle.std.specs.List.{IsDistinct}
use Rattle.std.specs.List.Sorted.{IsSorted}
use Rattle.std.specs.Map.{lookup, remove_entry}
use Rattle.std.specs.Ordering.{is_lt, nat_cmp, eq_by_cmp}
use Rattle.std.specs.Cmp.{nat_cmp_total, unsigned_ties}
use Rattle.std.specs.FinMap.{nat_cmp-IsAntisymmetric}
use Rattle.std.specs.FinMap.Entries.{below_all, is_sorted-put, find-put, same_entries, find, put, is_sorted}
use Rattle.std.proofs.lemmas.Bool.{and_parts, ltb-true, eqb-true, eq-eqb, ne_eqb, eqb-false}
use Rattle.indexmap.specs.IndexMap.{insert_entry}
use Rattle.vr_state.specs.Finite.{without, IsMap}
use Rattle.vr_state.proofs.Maps.{less, T_true}
use Rattle.vr_state.proofs.Ascending.{is_lt_nat_cmp, keys_in_order, ascending_from}

eqb_flip : (x y : ℕ) → eqb x y ≡ eqb y x
eqb_flip x y =
    let by : (b : Bool) → eqb y x ≡ b → eqb x y ≡ b = elim [
      | true ↦ λ e. eq-eqb x y (sym (eqb-true y x e))
      | false ↦ λ e. ne_eqb x y (λ same. eqb-false y x e (sym same))
    ] in
    by (eqb y x) refl

module _ {X : Type 0} where
  pub lookup_is_find : (key : ℕ) (es : List (ℕ × X)) → lookup (eqb key) es ≡ find nat_cmp key es
  lookup_is_find key [] = refl
  lookup_is_find key (e ∷ es) = λ i. cond (unsigned_ties key e.0 i) (Some e.1) (lookup_is_find key es i)

  all_kept : (key : ℕ) (es : List (ℕ × X)) → below_all nat_cmp key es ≡ true → without nat_cmp key es ≡ es
  all_kept key [] h = refl
  all_kept key (e ∷ es) h =
      let parts = and_parts (is_lt (nat_cmp key e.0)) (below_all nat_cmp key es) h in
      rw (less (nat_cmp key e.0) parts.0) (ap (λ xs. e ∷ xs) (all_kept key es parts.1))

  -- to take the first entry with the key out leaves the map without the key
  pub remove_entry_is_without : (key : ℕ) (es : List (ℕ × X)) → IsMap nat_cmp es → remove_entry (eqb key) es ≡ without nat_cmp key es
  remove_entry_is_without key [] h = refl
  remove_entry_is_without key (e ∷ es) h =
      let parts = and_parts (below_all nat_cmp e.0 es) (is_sorted nat_cmp es) h in
      let by : (b : Bool) → eqb key e.0 ≡ b → cond b es (e ∷ remove_entry (eqb key) es) ≡ cond (not b) (e ∷ without nat_cmp key es) (without nat_cmp key es) = elim [
        | true ↦ λ same. sym (all_kept key es (subst (λ k. below_all nat_cmp k es ≡ true) (sym (eqb-true key e.0 same)) parts.0))
        | false ↦ λ apart. ap (λ xs. e ∷ xs) (remove_entry_is_without key es parts.1)
      ] in
      by (eqb key e.0) refl ∙ ap (λ b. cond (not b) (e ∷ without nat_cmp key es) (without nat_cmp key es)) (unsigned_ties key e.0)

  -- a map that answers each key as `put` makes it answer is what `put` makes
  pub inserted_is_put : (key : ℕ) (v : X) (old new : List (ℕ × X)) → IsMap nat_cmp old
      → (IsSorted nat_cmp (map (λ e. e.0) old) → IsSorted nat_cmp (map (λ e. e.0) new)) → IsDistinct eqb (map (λ e. e.0) new)
      → ((q : ℕ) → lookup (eqb q) new ≡ cond (eqb key q) (Some v) (lookup (eqb q) old)) → new ≡ put nat_cmp key v old
  inserted_is_put key v old new h sorted distinct answers =
      let ascends = ascending_from new (sorted (keys_in_order old h)) distinct in
      same_entries nat_cmp nat_cmp_total nat_cmp-IsAntisymmetric new (put nat_cmp key v old) (T_true _ ascends) (is_sorted-put nat_cmp nat_cmp_total key v old (T_true _ h))
      (λ q. sym (lookup_is_find q new) ∙ (answers q ∙ (ap (λ b. cond b (Some v) (lookup (eqb q) old)) (eqb_flip key q ∙ unsigned_ties q key)
      ∙ (ap (λ o. cond (eq_by_cmp nat_cmp q key) (Some v) o) (lookup_is_find q old) ∙ sym (find-put nat_cmp nat_cmp_total q key v old)))))

  below_last : (low : ℕ) (es : List (ℕ × X)) (key : ℕ) (v : X) → below_all nat_cmp low (es ++ (key, v) ∷ []) ≡ true → low < key
  below_last low [] key v h = ltb-true low key (sym (is_lt_nat_cmp low key) ∙ (and_parts (is_lt (nat_cmp low key)) true h).0)
  below_last low (e ∷ es) key v h = below_last low es key v (and_parts (is_lt (nat_cmp low e.0)) (below_all nat_cmp low (es ++ (key, v) ∷ [])) h).1

  -- a key that stands above the last goes to the end
  pub insert_entry_end : (es : List (ℕ × X)) (key : ℕ) (v : X) → IsMap nat_cmp (es ++ (key, v) ∷ []) → insert_entry eqb es key v ≡ es ++ (key, v) ∷ []
  insert_entry_end [] key v h = refl
  insert_entry_end (e ∷ es) key v h =
      let parts = and_parts (below_all nat_cmp e.0 (es ++ (key, v) ∷ [])) (is_sorted nat_cmp (es ++ (key, v) ∷ [])) h in
      let lower = below_last e.0 es key v parts.0 in
      rw (ne_eqb key e.0 (λ same. omega arith)) (ap (λ xs. e ∷ xs) (insert_entry_end es key v parts.1))
