-- Statements of replicas that know all their headers.
use Rattle.std.proofs.Common.{ℕ, zero, suc, ◌+◌, ◌-◌, ◌≤◌, ◌≡◌, arith, true, List, [], ◌∷◌, ◌++◌, length, Some}
use Rattle.std.specs.Prelude.{All, slice_get}
use Rattle.std.specs.List.{prefix_len}
use Rattle.std.proofs.lemmas.List.Sums.{prefix_len_is}
use Rattle.std.proofs.lemmas.List.Elements.{All-head, All-tail}
use Rattle.vr_header.specs.declared.part.Part.{Part}
use Rattle.vr_header.specs.declared.part.Part.TheVariants.{Nothing}
use Rattle.vr_header.specs.Parts.{has_header}
use Rattle.vr_msg.specs.Logs.{IsStatement, FromOp, IsPartAt}

pub FromOp-push : {X : Type 0} (P : ℕ → X → Type 0) (op : ℕ) (xs : List X) (x : X) → FromOp P op xs → P (op + length xs) x → FromOp P op (xs ++ x ∷ [])
FromOp-push P op [] x all is = let e : op + 0 ≡ op = omega arith in (rw e at is, tt)
FromOp-push {X} P op (y ∷ xs) x all is =
    let e : op + suc (length xs) ≡ op + 1 + length xs = omega arith in
    (all.0, FromOp-push P (op + 1) xs x all.1 (rw e at is))

all_known : (xs : List Part) → All (λ p. has_header p ≡ true) xs → prefix_len has_header xs ≡ length xs
all_known xs all = prefix_len_is has_header xs (length xs) Nothing (omega arith) (λ k l. all k Nothing l) (λ l. absurd (omega arith))

last_known : (xs : List Part) (i : ℕ) → All (λ p. has_header p ≡ true) xs → slice_get xs i ≡ Some Nothing → ⊥
last_known [] i all e = cc
last_known (x ∷ xs) zero all e =
    let is : x ≡ Nothing = cc in
    let known : has_header Nothing ≡ true = rw is at (All-head (λ p. has_header p ≡ true) x xs all) in
    cc
last_known (x ∷ xs) (suc i) all e = last_known xs i (All-tail (λ p. has_header p ≡ true) x xs all) e

pub whole_statement : (version log_view head : ℕ) (parts : List Part) → length parts ≡ head → head ≤ 64 → FromOp (IsPartAt version 1 log_view) 1 parts
    → All (λ p. has_header p ≡ true) parts
    → IsStatement version 1 (record { log_view = log_view; commit = 0; head = head; body = record { first = 1; parts = parts } })
whole_statement version log_view head parts size small stand known =
    let run = all_known parts known in
    record {
      commit = omega arith;
      head = omega arith;
      first = (omega arith, omega arith);
      run = omega arith;
      short = omega arith;
      count = omega arith;
      last = last_known parts (length parts - 1) known;
      parts = stand;
    }
