-- What is applied has the meaning that look-ups give it.
use Rattle.std.proofs.Common.{◌≡◌, ◌≢◌, ℕ, inl, inr, List, [], ◌∷◌, ◌++◌, length, Option, Some, None, MatchOption, Bool, true, false, not, is_some, ltb, cond, fold, refl, sym, ◌∙◌, ap, arith}
use Rattle.std.specs.Option.{option_map_or}
use Rattle.std.specs.Ordering.{eq_by_cmp, is_eq}
use Rattle.std.specs.declared.cmp.Ordering.{Ordering}
use Rattle.std.specs.declared.cmp.Ordering.TheVariants.{Less, Equal, Greater}
use Rattle.std.specs.Cmp.{tied_itself, alike_right}
use Rattle.std.specs.FinMap.{slice_cmp-IsAntisymmetric, nat_cmp-IsAntisymmetric}
use Rattle.std.specs.FinMap.Entries.{find-put, find-where_key, find, put}
use Rattle.std.proofs.lemmas.Bool.{ltb-false, true≢false}
use Rattle.vr_header.specs.declared.operation.Operation.{Operation}
use Rattle.vr_header.specs.declared.operation.Operation.TheVariants.{Register, Put, Get, Delete}
use Rattle.vr_header.specs.declared.outcome.Outcome.TheVariants as outcome
use Rattle.vr_state.specs.Finite.{byte_order, without}
use Rattle.vr_state.specs.Kv.{Map, Answered, answers, putting, getting, deleting, applied, machine_after, IsKv}
use Rattle.vr_state.specs.Meaning.{Sets, Means}
use Rattle.vr_state.proofs.KvSteps.{bytes_total}

same_key : (q key : List ℕ) → byte_order q key ≡ Equal → q ≡ key
same_key q key e = slice_cmp-IsAntisymmetric nat_cmp-IsAntisymmetric q key e

not_equal : (o : Ordering) → (o ≡ Equal → ⊥) → is_eq o ≡ false
not_equal Less n = refl
not_equal Equal n = absurd (n refl)
not_equal Greater n = refl

other_key : (q key : List ℕ) → q ≢ key → eq_by_cmp byte_order q key ≡ false
other_key q key n = not_equal (byte_order q key) (λ e. n (same_key q key e))

own_key : (key : List ℕ) → eq_by_cmp byte_order key key ≡ true
own_key key = ap is_eq (tied_itself bytes_total key)

sets_put : (m : Map) (key value : List ℕ) → Sets m (put byte_order key value m) key (Some value)
sets_put m key value = record {
  this = find-put byte_order bytes_total key key value m ∙ ap (λ b. cond b (Some value) (find byte_order key m)) (own_key key);
  others = λ q n. find-put byte_order bytes_total q key value m ∙ ap (λ b. cond b (Some value) (find byte_order q m)) (other_key q key n);
}

find-without : (q key : List ℕ) (m : Map) → find byte_order q (without byte_order key m) ≡ cond (not (eq_by_cmp byte_order key q)) (find byte_order q m) None
find-without q key m = find-where_key byte_order (λ x. not (eq_by_cmp byte_order key x)) q (λ x same. ap (λ o. not (is_eq o)) (sym (alike_right bytes_total q x key same))) m

sets_without : (m : Map) (key : List ℕ) → Sets m (without byte_order key m) key None
sets_without m key = record {
  this = find-without key key m ∙ ap (λ b. cond (not b) (find byte_order key m) None) (own_key key);
  others = λ q n. find-without q key m ∙ ap (λ b. cond (not b) (find byte_order q m) None) (other_key key q (λ e. n (sym e)));
}

none : (o : Option (List ℕ)) → is_some o ≡ false → o ≡ None
none None e = refl
none (Some v) e = absurd (true≢false e)

put_means : (m : Map) (key value : List ℕ) → IsKv m → Means m (Put key value) (putting m key value).outcome (putting m key value).machine
unfolding putting
put_means m key value kv =
    let done = answers (put byte_order key value m) outcome.Ok in
    let refused = answers m outcome.Full in
    let Goal = λ (a : Answered). Means m (Put key value) a.outcome a.machine in
    let by : (there room : Bool) → is_some (find byte_order key m) ≡ there → ltb (length m) 128 ≡ room → Goal (cond there done (cond room done refused)) = elim [
      | true ↦ λ room e f. inl (refl, sets_put m key value)
      | false ↦ elim [
        | true ↦ λ e f. inl (refl, sets_put m key value)
        | false ↦ λ e f. inr (refl, record { same = refl; absent = none (find byte_order key m) e; full = omega (arith, ltb-false (length m) 128 f, kv.few) })
      ]
    ] in
    by (is_some (find byte_order key m)) (ltb (length m) 128) refl refl

get_means : (m : Map) (key : List ℕ) → Means m (Get key) (getting m key).outcome (getting m key).machine
unfolding getting
get_means m key =
    let by : (o : Option (List ℕ)) → MatchOption o (option_map_or outcome.Value o outcome.Absent ≡ outcome.Absent) (λ value. option_map_or outcome.Value o outcome.Absent ≡ outcome.Value value) = elim [
      | None ↦ refl
      | Some v ↦ refl
    ] in
    (by (find byte_order key m), refl)

unset : (m : Map) (key : List ℕ) → find byte_order key m ≡ None → Sets m m key None
unset m key absent = record { this = absent; others = λ q n. refl }

delete_means : (m : Map) (key : List ℕ) → Means m (Delete key) (deleting m key).outcome (deleting m key).machine
unfolding deleting
delete_means m key =
    let done = answers (without byte_order key m) outcome.Ok in
    let absent = answers m outcome.Absent in
    let by : (o : Option (List ℕ)) → find byte_order key m ≡ o → MatchOption o ((cond (is_some o) done absent).outcome ≡ outcome.Absent) (λ value. (cond (is_some o) done absent).outcome ≡ outcome.Ok) × Sets m (cond (is_some o) done absent).machine key None = elim [
      | None ↦ λ e. (refl, unset m key e)
      | Some v ↦ λ e. (refl, sets_without m key)
    ] in
    by (find byte_order key m) refl

pub applied_means : (m : Map) (operation : Operation) → IsKv m → Means m operation (applied m operation).outcome (applied m operation).machine
unfolding applied
applied_means m Register kv = (refl, refl)
applied_means m (Put key value) kv = put_means m key value kv
applied_means m (Get key) kv = get_means m key
applied_means m (Delete key) kv = delete_means m key

fold_more : (step : Map → Operation → Map) (start : Map) (operations : List Operation) (operation : Operation) → fold step start (operations ++ operation ∷ []) ≡ step (fold step start operations) operation
fold_more step start [] operation = refl
fold_more step start (o ∷ os) operation = fold_more step (step start o) os operation

-- one operation more is one step more
pub machine_after_more : (operations : List Operation) (operation : Operation) → machine_after (operations ++ operation ∷ []) ≡ (applied (machine_after operations) operation).machine
machine_after_more operations operation = fold_more (λ m o. (applied m o).machine) [] operations operation
