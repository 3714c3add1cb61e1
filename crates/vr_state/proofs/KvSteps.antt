-- What an operation makes of a machine, by the place of its key; and that it stays a machine.
use Rattle.std.proofs.Common.{◌≡◌, ℕ, zero, suc, ◌+◌, ◌<◌, ◌≤◌, List, [], ◌∷◌, length, get_or, set, Bool, true, not, is_some, nat_lt, cond, refl, sym, ap, subst, arith}
use Rattle.std.specs.List.{AllByRecursion, insert, remove}
use Rattle.std.specs.Ordering.{eq_by_cmp}
use Rattle.std.specs.declared.cmp.Ordering.TheVariants.{Less, Equal, Greater}
use Rattle.std.specs.Cmp.{IsTotalOrder}
use Rattle.std.specs.Cmp.Lexicographic.{nat_list_cmp_total}
use Rattle.std.specs.FinMap.Entries.{by_order, where_key, is_sorted-put, is_sorted-where_key, length-put, find, put}
use Rattle.std.proofs.lemmas.Bool.{lt-ltb, le-ltb, ltb-true, cond_both}
use Rattle.std.specs.FinMap.{slice_cmp-IsAntisymmetric, nat_cmp-IsAntisymmetric}
use Rattle.vr_base.specs.Versions.{value_limit}
use Rattle.vr_header.specs.Text.{is_text}
use Rattle.vr_header.specs.declared.outcome.Outcome.TheVariants as outcome
use Rattle.vr_state.specs.Finite.{byte_order, without, IsMap}
use Rattle.vr_state.proofs.Maps.{T_true, true_T}
use Rattle.vr_state.specs.Kv.{Map, Answered, answers, putting, getting, deleting, IsKv}
use Rattle.vr_state.specs.Pairs.{Fits}
use Rattle.vr_state.specs.Places.{IsAt, IsGap}
use Rattle.vr_state.proofs.Places.{find_at, put_at, without_at, find_gap, put_gap}

pub bytes_total : IsTotalOrder byte_order
bytes_total = nat_list_cmp_total

module _ (m : Map) (key : List ℕ) (i : ℕ) (h : IsMap byte_order m) (at : IsAt byte_order key m i) where
  -- e is the pair that stands there
  pub replaced : (v : List ℕ) (e : List ℕ × List ℕ) → e ≡ get_or m i e → putting m key v ≡ answers (set m i (e.0, v)) outcome.Ok
  unfolding putting
  replaced v e is =
      let there : (get_or m i e).0 ≡ e.0 = ap (λ (p : List ℕ × List ℕ). p.0) (sym is) in
      rw (find_at byte_order bytes_total key m i e h at, put_at byte_order bytes_total key v m i e h at, there) refl

  pub got : (e : List ℕ × List ℕ) → e ≡ get_or m i e → getting m key ≡ answers m (outcome.Value e.1)
  unfolding getting
  got e is =
      let there : (get_or m i e).1 ≡ e.1 = ap (λ (p : List ℕ × List ℕ). p.1) (sym is) in
      rw (find_at byte_order bytes_total key m i e h at, there) refl

  pub deleted : deleting m key ≡ answers (remove m i) outcome.Ok
  unfolding deleting
  deleted = rw (find_at byte_order bytes_total key m i ([], []) h at, without_at byte_order bytes_total key m i h at) refl

module _ (m : Map) (key : List ℕ) (i : ℕ) (gap : IsGap byte_order key m i) where
  pub inserted : (v : List ℕ) → length m < 128 → putting m key v ≡ answers (insert m i (key, v)) outcome.Ok
  unfolding putting
  inserted v room = rw (find_gap byte_order bytes_total key m i gap, lt-ltb (length m) 128 room, put_gap byte_order bytes_total key v m i gap) refl

  pub refused : (v : List ℕ) → 128 ≤ length m → putting m key v ≡ answers m outcome.Full
  unfolding putting
  refused v full = rw (find_gap byte_order bytes_total key m i gap, le-ltb (length m) 128 full) refl

  pub missed : getting m key ≡ answers m outcome.Absent
  unfolding getting
  missed = rw (find_gap byte_order bytes_total key m i gap) refl

  pub not_there : deleting m key ≡ answers m outcome.Absent
  unfolding deleting
  not_there = rw (find_gap byte_order bytes_total key m i gap) refl

fit_put : (key v : List ℕ) (m : Map) → AllByRecursion Fits m → Fits (key, v) → AllByRecursion Fits (put byte_order key v m)
fit_put key v [] h f = (f, tt)
fit_put key v (e ∷ es) h f =
    elim (byte_order key e.0) as (λ o. AllByRecursion Fits (by_order o ((key, v) ∷ e ∷ es) ((e.0, v) ∷ es) (e ∷ put byte_order key v es))) [
      | Less ↦ (f, h)
      | Equal ↦ let same : Fits (e.0, v) = record { key = h.0.key; value = f.value } in (same, h.1)
      | Greater ↦ (h.0, fit_put key v es h.1 f)
    ]

fit_where : (p : List ℕ → Bool) (m : Map) → AllByRecursion Fits m → AllByRecursion Fits (where_key byte_order p m)
fit_where p [] h = tt
fit_where p (e ∷ es) h = cond_both (p e.0) (e ∷ where_key byte_order p es) (where_key byte_order p es) (AllByRecursion Fits) (λ t. (h.0, fit_where p es h.1)) (λ f. fit_where p es h.1)

length-where : (p : List ℕ → Bool) (m : Map) → length (where_key byte_order p m) ≤ length m
length-where p [] = omega arith
length-where p (e ∷ es) = let rest = length-where p es in cond_both (p e.0) (e ∷ where_key byte_order p es) (where_key byte_order p es) (λ xs. length xs ≤ length (e ∷ es)) (λ t. omega arith) (λ f. omega arith)

without_few : (key : List ℕ) (m : Map) → length m ≤ 128 → length (without byte_order key m) ≤ 128
without_few key m few = let less = length-where (λ x. not (eq_by_cmp byte_order key x)) m in omega arith

pub IsKv-empty : IsKv []
IsKv-empty = record { is_map = refl; fit = tt; few = omega arith }

pub IsKv-put : (m : Map) (key v : List ℕ) → IsKv m → Fits (key, v) → (is_some (find byte_order key m) ≡ true → ⊥) → length m < 128 → IsKv (put byte_order key v m)
IsKv-put m key v kv f new room = record {
  is_map = true_T _ (is_sorted-put byte_order bytes_total key v m (T_true _ kv.is_map));
  fit = fit_put key v m kv.fit f;
  few = rw (length-put byte_order bytes_total key v m (T_true _ kv.is_map)) (cond_both (is_some (find byte_order key m)) (length m) (length m + 1) (λ n. n ≤ 128) (λ t. omega (arith, kv.few)) (λ f. omega arith));
}

pub IsKv-over : (m : Map) (key v : List ℕ) → IsKv m → Fits (key, v) → is_some (find byte_order key m) ≡ true → IsKv (put byte_order key v m)
IsKv-over m key v kv f there = record {
  is_map = true_T _ (is_sorted-put byte_order bytes_total key v m (T_true _ kv.is_map));
  fit = fit_put key v m kv.fit f;
  few = rw (length-put byte_order bytes_total key v m (T_true _ kv.is_map), there) kv.few;
}

pub IsKv-putting : (m : Map) (key v : List ℕ) → IsKv m → Fits (key, v) → IsKv (putting m key v).machine
unfolding putting
IsKv-putting m key v kv f =
    let there = is_some (find byte_order key m) in
    let over : there ≡ true → IsKv (put byte_order key v m) = IsKv-over m key v kv f in
    cond_both there (answers (put byte_order key v m) outcome.Ok) (cond (nat_lt (length m) 128) (answers (put byte_order key v m) outcome.Ok) (answers m outcome.Full)) (λ a. IsKv a.machine) over
    (λ new. cond_both (nat_lt (length m) 128) (answers (put byte_order key v m) outcome.Ok) (answers m outcome.Full) (λ a. IsKv a.machine)
    (λ room. IsKv-put m key v kv f (λ t. absurd cc) (ltb-true (length m) 128 room)) (λ _. kv))

pub IsKv-deleting : (m : Map) (key : List ℕ) → IsKv m → IsKv (deleting m key).machine
unfolding deleting
IsKv-deleting m key kv =
    cond_both (is_some (find byte_order key m)) (answers (without byte_order key m) outcome.Ok) (answers m outcome.Absent) (λ a. IsKv a.machine)
    (λ t. record {
      is_map = true_T _ (is_sorted-where_key byte_order _ m (T_true _ kv.is_map));
      fit = fit_where _ m kv.fit;
      few = without_few key m kv.few;
    }) (λ f. kv)

fits_at : (m : Map) → AllByRecursion Fits m → (i : ℕ) (d : List ℕ × List ℕ) → i < length m → Fits (get_or m i d)
fits_at [] h i d within = absurd (omega arith)
fits_at (e ∷ es) h zero d within = h.0
fits_at (e ∷ es) h (suc i) d within = fits_at es h.1 i d (omega arith)

-- a key that is there is a text
key_fits : (m : Map) (key : List ℕ) (i : ℕ) → IsKv m → IsAt byte_order key m i → is_text 64 key ≡ true
key_fits m key i kv at =
    let there = slice_cmp-IsAntisymmetric nat_cmp-IsAntisymmetric (get_or m i ([], [])).0 key (at.has_key ([], [])) in
    subst (λ k. is_text 64 k ≡ true) there (fits_at m kv.fit i ([], []) at.in_range).key

module _ (m : Map) (key : List ℕ) (i : ℕ) (kv : IsKv m) where
  pub IsKv-replaced : IsAt byte_order key m i → (v : List ℕ) (e : List ℕ × List ℕ) → e ≡ get_or m i e → is_text (value_limit 2) v ≡ true → IsKv (set m i (e.0, v))
  IsKv-replaced at v e is text =
      subst IsKv (ap (λ (a : Answered). a.machine) (replaced m key i kv.is_map at v e is)) (IsKv-putting m key v kv (record { key = key_fits m key i kv at; value = text }))

  pub IsKv-removed : IsAt byte_order key m i → IsKv (remove m i)
  IsKv-removed at = subst IsKv (ap (λ (a : Answered). a.machine) (deleted m key i kv.is_map at)) (IsKv-deleting m key kv)

  pub IsKv-inserted : IsGap byte_order key m i → (v : List ℕ) → is_text 64 key ≡ true → is_text (value_limit 2) v ≡ true → length m < 128 → IsKv (insert m i (key, v))
  IsKv-inserted gap v key_text text room =
      subst IsKv (ap (λ (a : Answered). a.machine) (inserted m key i gap v room)) (IsKv-putting m key v kv (record { key = key_text; value = text }))
