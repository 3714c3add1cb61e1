-- Statements in another order.
use Rattle.std.proofs.Common.{ℕ, ◌+◌, ◌≤◌, ◌≡◌, ◌∙◌, arith, refl, sym, ap, cond, ltb, leb, max, List, [], ◌∷◌, length, Option, Some, None}
use Rattle.std.specs.Prelude.{All, count_by}
use Rattle.std.specs.List.{prefix_len, filter_map}
use Rattle.std.specs.List.Sorted.{IsPermutation}
use Rattle.std.specs.Option.{option_and_then, option_map_or}
use Rattle.std.proofs.lemmas.List.Elements.{All-cons, All-nil, All-head, All-tail, All-weaker}
use Rattle.std.proofs.lemmas.List.Sorted.{IsPermutation-sym, length_permutation, All-permutation, sum_by-IsPermutation, list_any-IsPermutation}
use Rattle.vr_base.specs.declared.table.Quorums.{Quorums}
use Rattle.vr_header.specs.declared.header.Header.{Header}
use Rattle.vr_msg.specs.declared.statement.Statement.{Statement}
use Rattle.vr_msg.specs.declared.choice.Choice.TheVariants.{Ends, WaitsAt, TooFew}
use Rattle.vr_msg.specs.Choice.{stated_part, stated_header, is_here, top_view, top_commit, reach, named, intact, intact_by, denies_by, denials, ops, row_end, farthest, start_of, log_start, chosen_header, log_headers, choice}
use Rattle.vr_choose.specs.Laws.{KeepsOrder}

-- the greatest of a number of each statement
abbrev greatest : (Statement → ℕ) → List Statement → ℕ
greatest f [] = 0
greatest f (s ∷ ss) = max (f s) (greatest f ss)

bound : (f : Statement → ℕ) (m : ℕ) (ss : List Statement) → All (λ s. f s ≤ m) ss → greatest f ss ≤ m
bound f m [] all = omega arith
bound f m (s ∷ ss) all =
    let first = All-head (λ s. f s ≤ m) s ss all in
    let rest = bound f m ss (All-tail (λ s. f s ≤ m) s ss all) in
    omega arith

most : (f : Statement → ℕ) (ss : List Statement) → All (λ s. f s ≤ greatest f ss) ss
most f [] = All-nil (λ s. f s ≤ greatest f [])
most f (s ∷ ss) =
    let P : Statement → Type 0 = λ x. f x ≤ greatest f ss in
    let Q : Statement → Type 0 = λ x. f x ≤ max (f s) (greatest f ss) in
    All-cons Q s ss (omega arith) (All-weaker P Q (λ x l. omega arith) ss (most f ss))

below : (f : Statement → ℕ) (ss ts : List Statement) → IsPermutation ss ts → greatest f ts ≤ greatest f ss
below f ss ts p = bound f (greatest f ss) ts (All-permutation (λ s. f s ≤ greatest f ss) ss ts p (most f ss))

same_greatest : (f : Statement → ℕ) (ss ts : List Statement) → IsPermutation ss ts → greatest f ss ≡ greatest f ts
same_greatest f ss ts p =
    let one = below f ss ts p in
    let other = below f ts ss (IsPermutation-sym ss ts p) in
    omega arith

view_is : (ss : List Statement) → top_view ss ≡ greatest (λ s. s.log_view) ss
view_is [] = refl
view_is (s ∷ ss) = ap (max s.log_view) (view_is ss)

commit_is : (ss : List Statement) → top_commit ss ≡ greatest (λ s. s.commit) ss
commit_is [] = refl
commit_is (s ∷ ss) = ap (max s.commit) (commit_is ss)

reach_is : (ss : List Statement) → reach ss ≡ greatest (λ s. s.body.first + length s.body.parts) ss
reach_is [] = refl
reach_is (s ∷ ss) = ap (max (s.body.first + length s.body.parts)) (reach_is ss)

pub view_most : (ss : List Statement) → All (λ s. s.log_view ≤ top_view ss) ss
view_most ss = rw (view_is ss) (most (λ s. s.log_view) ss)

pub same_view : (ss ts : List Statement) → IsPermutation ss ts → top_view ss ≡ top_view ts
same_view ss ts p = view_is ss ∙ same_greatest (λ s. s.log_view) ss ts p ∙ sym (view_is ts)

pub same_commit : (ss ts : List Statement) → IsPermutation ss ts → top_commit ss ≡ top_commit ts
same_commit ss ts p = commit_is ss ∙ same_greatest (λ s. s.commit) ss ts p ∙ sym (commit_is ts)

same_reach : (ss ts : List Statement) → IsPermutation ss ts → reach ss ≡ reach ts
same_reach ss ts p = reach_is ss ∙ same_greatest (λ s. s.body.first + length s.body.parts) ss ts p ∙ sym (reach_is ts)

intact_in : (e : Option Header) (k : ℕ) (ss ts : List Statement) → IsPermutation ss ts → intact_by e k ss ≡ intact_by e k ts
intact_in None k ss ts p = refl
intact_in (Some e) k ss ts p = list_any-IsPermutation (λ s. is_here e (stated_part k s)) ss ts p

module _ (ss ts : List Statement) (p : IsPermutation ss ts) (names : (k : ℕ) → named ss k ≡ named ts k) (far : farthest ss ≡ farthest ts) where
  same_intact : (k : ℕ) → intact ss k ≡ intact ts k
  same_intact k = ap (λ (e : Option Header). intact_by e k ss) (names k) ∙ intact_in (named ts k) k ss ts p

  same_denials : (k : ℕ) → denials ss k ≡ denials ts k
  same_denials k =
      ap (λ (w : ℕ). count_by (denies_by w (named ss k) k) ss) (same_view ss ts p)
      ∙ ap (λ (e : Option Header). count_by (denies_by (top_view ts) e k) ss) (names k)
      ∙ sym (sum_by-IsPermutation (λ s. cond (denies_by (top_view ts) (named ts k) k s) 1 0) ss ts p)

  same_row : row_end ss ≡ row_end ts
  unfolding row_end
  same_row =
      let commit = same_commit ss ts p in
      let reaches = same_reach ss ts p in
      λ i. commit i + prefix_len (λ k. same_intact k i) (ops (commit i) (reaches i))

  same_start : (head : ℕ) → log_start ss head ≡ log_start ts head
  same_start head =
      let commit = same_commit ss ts p in
      λ i. option_map_or (start_of (commit i) head) (far i) (commit i)

  same_header_chosen : (k : ℕ) → chosen_header ss k ≡ chosen_header ts k
  same_header_chosen k =
      let commit = same_commit ss ts p in
      λ i. cond (leb k (commit i)) (option_and_then (stated_header k) (far i)) (names k i)

  same_headers : (head : ℕ) → log_headers ss head ≡ log_headers ts head
  unfolding log_headers
  same_headers head =
      let start = same_start head in
      λ i. filter_map (λ k. same_header_chosen k i) (ops (start i) head)

  pub same_choice : (q : Quorums) → choice q ss ≡ choice q ts
  unfolding choice
  same_choice q =
      let lengths : length ss ≡ length ts = sym (length_permutation ss ts p) in
      λ i. cond (ltb (lengths i) q.view_change) TooFew
      (cond (leb q.nack (same_denials (same_row i + 1) i)) (Ends (same_headers (same_row i) i)) (WaitsAt (same_row i + 1)))

pub keeps_order : KeepsOrder
keeps_order q ss ts p names far = same_choice ss ts p names far q
