-- Who denies, counted.
use Rattle.std.proofs.Common.{refl, ℕ, zero, suc, ◌+◌, ◌≤◌, ◌<◌, ◌≡◌, arith, Bool, true, false, cond, ◌++◌, Option, Some, None}
use Rattle.std.specs.Prelude.{IfSome, count_by}
use Rattle.std.specs.Option.{option_to_list, option_map_or}
use Rattle.std.proofs.lemmas.List.Sums.{sum_by-append}
use Rattle.vr_base.specs.Count.{count}
use Rattle.vr_msg.specs.declared.statement.Statement.{Statement}
use Rattle.vr_choose.specs.Laws.{present}

-- of a test that fails for each member of a set
pub count_present : (table : ℕ → Option Statement) (set : ℕ → Bool) (p : Statement → Bool) (n : ℕ)
    → ((i : ℕ) → i < n → set i ≡ true → IfSome (table i) (λ s. p s ≡ false))
    → count_by p (present table n) + count set n ≤ n
count_present table set p zero h = omega arith
count_present table set p (suc n) h =
    let rest = count_present table set p n (λ i l e. h i (omega arith) e) in
    elim (table n) as (λ o. (set n ≡ true → IfSome o (λ s. p s ≡ false)) → count_by p (present table n ++ option_to_list o) + (count set n + cond (set n) 1 0) ≤ suc n) [
      | None ↦ λ g. rw sum_by-append (grind (arith, rest))
      | Some s ↦ λ g. rw sum_by-append (grind (arith, rest, g))
    ] (h n (omega arith))

-- how many statements pass a test is how many replicas have one that does
pub count_there : (table : ℕ → Option Statement) (p : Statement → Bool) (n : ℕ)
    → count_by p (present table n) ≡ count (λ i. option_map_or p (table i) false) n
count_there table p zero = refl
count_there table p (suc n) =
    let rest = count_there table p n in
    elim (table n) as (λ o. count_by p (present table n ++ option_to_list o) ≡ count (λ i. option_map_or p (table i) false) n + cond (option_map_or p o false) 1 0) [
      | None ↦ rw sum_by-append (grind (arith, rest))
      | Some s ↦ rw sum_by-append (grind (arith, rest))
    ]
