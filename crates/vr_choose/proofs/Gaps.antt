-- The first op that isn't intact.
use Rattle.std.proofs.Common.{ℕ, ◌+◌, ◌-◌, ◌≤◌, ◌<◌, ◌≡◌, inl, inr, arith, true, false, List, length, get_or}
use Rattle.std.specs.Prelude.{All, ◌^◌}
use Rattle.std.specs.List.{prefix_len}
use Rattle.std.proofs.lemmas.Bool.{cases_lt, cases_Bool, both_ways}
use Rattle.std.proofs.lemmas.List.Sums.{prefix_len_is, prefix_len_passes, prefix_len_stops, prefix_len-le-length}
use Rattle.std.proofs.lemmas.List.FromFn.{length-range_with_len, get_or-range_with_len}
use Rattle.vr_msg.specs.declared.statement.Statement.{Statement}
use Rattle.vr_msg.specs.Choice.{top_commit, intact, IsIntact, IsGap, reach, ops, row_end}
use Rattle.vr_choose.proofs.Bounds.{IsBounded}
use Rattle.vr_choose.proofs.Intact.{intact_is, intact_of, intact_within, reach_small, commit_small}

-- the ops above the greatest commit number, by place
pub op_at : (ss : List Statement) (i : ℕ) → i < reach ss - top_commit ss → get_or (ops (top_commit ss) (reach ss)) i 0 ≡ top_commit ss + 1 + i
op_at ss i h = get_or-range_with_len (top_commit ss + 1) (reach ss - top_commit ss) i 0 h

pub row_ends : (ss : List Statement) (k : ℕ) → top_commit ss < k
    → ((j : ℕ) → top_commit ss < j → j < k → intact ss j ≡ true) → intact ss k ≡ false → row_end ss + 1 ≡ k
unfolding row_end
row_ends ss k above whole broken =
    let C = top_commit ss in
    let xs = ops C (reach ss) in
    let n : ℕ = k - (C + 1) in
    let size : length xs ≡ reach ss - C = length-range_with_len (C + 1) (reach ss - C) in
    let fits : n ≤ length xs =
    elim (cases_lt (C + 1) k) [
      | inl l ↦ let last : k - 1 < reach ss = intact_within (k - 1) ss (whole (k - 1) (omega arith) (omega arith)) in omega arith
      | inr g ↦ omega arith
    ] in
    let passes : (i : ℕ) → i < n → intact ss (get_or xs i 0) ≡ true =
    λ i l. rw (op_at ss i (omega arith)) (whole (C + 1 + i) (omega arith) (omega arith)) in
    let stops : n < length xs → intact ss (get_or xs n 0) ≡ false =
    λ l. let e : C + 1 + n ≡ k = omega arith in rw (op_at ss n (omega arith), e) broken in
    let is : prefix_len (intact ss) xs ≡ n = prefix_len_is (intact ss) xs n 0 fits passes stops in
    omega arith

not_intact : (ss : List Statement) (k : ℕ) → (IsIntact ss k → ⊥) → intact ss k ≡ false
not_intact ss k h = elim (cases_Bool (intact ss k)) [ inl t ↦ absurd (h (intact_is ss k t)) | inr f ↦ f ]

pub gap_is : (ss : List Statement) (k : ℕ) → IsGap ss k → row_end ss + 1 ≡ k
gap_is ss k g = row_ends ss k g.above (λ j a b. intact_of ss j (g.whole j a b)) (not_intact ss k g.broken)

pub row_whole : (ss : List Statement) (j : ℕ) → top_commit ss < j → j ≤ row_end ss → intact ss j ≡ true
unfolding row_end
row_whole ss j above most =
    let C = top_commit ss in
    let xs = ops C (reach ss) in
    let i : ℕ = j - (C + 1) in
    let size : length xs ≡ reach ss - C = length-range_with_len (C + 1) (reach ss - C) in
    let within = prefix_len-le-length (intact ss) xs in
    let passes : intact ss (get_or xs i 0) ≡ true = prefix_len_passes (intact ss) xs i 0 (omega arith) in
    let e : C + 1 + i ≡ j = omega arith in
    rw (op_at ss i (omega arith), e) at passes

pub row_broken : (ss : List Statement) → intact ss (row_end ss + 1) ≡ false
unfolding row_end
row_broken ss =
    let C = top_commit ss in
    let xs = ops C (reach ss) in
    let n : ℕ = prefix_len (intact ss) xs in
    let size : length xs ≡ reach ss - C = length-range_with_len (C + 1) (reach ss - C) in
    elim (cases_lt n (length xs)) [
      | inl l ↦
          let stops : intact ss (get_or xs n 0) ≡ false = prefix_len_stops (intact ss) xs 0 l in
          let e : C + 1 + n ≡ C + n + 1 = omega arith in
          rw (op_at ss n (omega arith), e) at stops
      | inr g ↦
          elim (cases_Bool (intact ss (C + n + 1))) [
            | inl t ↦ let within = intact_within (C + n + 1) ss t in absurd (omega arith)
            | inr f ↦ f
          ]
    ]

pub row_long : (ss : List Statement) → top_commit ss ≤ row_end ss
unfolding row_end
row_long ss = omega arith

pub row_gap : (ss : List Statement) → IsGap ss (row_end ss + 1)
row_gap ss =
    let long = row_long ss in
    record {
      above = omega arith;
      whole = λ j a b. intact_is ss j (row_whole ss j a (omega arith));
      broken = λ i. both_ways _ (row_broken ss) (intact_of ss (row_end ss + 1) i);
    }

pub row_small : (ss : List Statement) → All IsBounded ss → row_end ss < 2 ^ 63
row_small ss all =
    elim (cases_lt (top_commit ss) (row_end ss)) [
      | inl l ↦ let last = intact_within (row_end ss) ss (row_whole ss (row_end ss) l (omega arith)) in let most = reach_small ss all in omega arith
      | inr g ↦ let most = commit_small ss all in omega arith
    ]
