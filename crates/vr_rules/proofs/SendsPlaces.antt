-- Whom a replica sends to: another one of its group.
use Rattle.std.proofs.Common.{arith, ◌≡◌, ◌≢◌, ◌≤◌, ◌<◌, ◌+◌, ◌-◌, ◌*◌, ◌%◌, inl, inr, ap, ◌∙◌, ℕ, zero, suc, not, ◌∷◌, filter}
use Rattle.std.specs.Prelude.{All, nat_eq}
use Rattle.std.specs.List.{range_with_len}
use Rattle.std.proofs.lemmas.Bool.{cond_both, eqb-false, not-true, cases_lt}
use Rattle.std.proofs.lemmas.Nat.{mod-mul-add, mod_below}
use Rattle.std.proofs.Math.Nat.{mod-eq_of_lt}
use Rattle.std.proofs.lemmas.List.Elements.{All-nil, All-cons}
use Rattle.vr_rules.specs.Outputs.{others}

abbrev pub IsOther : ℕ → ℕ → ℕ → Type 0
IsOther index n to = (to < n) × (to ≢ index)

others_from : (index n a k : ℕ) → a + k ≤ n → All (IsOther index n) (filter (λ to. not (nat_eq to index)) (range_with_len a k))
others_from index n a zero l = All-nil (IsOther index n)
others_from index n a (suc k) l =
    let rest = others_from index n (a + 1) k (omega arith) in
    cond_both (not (nat_eq a index)) (a ∷ filter (λ to. not (nat_eq to index)) (range_with_len (a + 1) k)) (filter (λ to. not (nat_eq to index)) (range_with_len (a + 1) k))
    (λ xs. All (IsOther index n) xs)
    (λ e. All-cons (IsOther index n) a _ (omega arith, eqb-false a index (not-true _ e)) rest)
    (λ e. rest)

pub others_are : (index n : ℕ) → All (IsOther index n) (others index n)
others_are index n = others_from index n 0 n (omega arith)

-- the next peer
pub peer_is : (index n turn : ℕ) → index < n → turn + 1 < n → IsOther index n ((index + 1 + turn) % n)
peer_is index n turn l t =
    elim (cases_lt (index + 1 + turn) n) [
      | inl below ↦ (let e : (index + 1 + turn) % n ≡ index + 1 + turn = mod-eq_of_lt below in (omega arith, λ (q : (index + 1 + turn) % n ≡ index). omega arith))
      | inr above ↦ (
          let b = index + 1 + turn - n in
          let e : (1 * n + b) % n ≡ b = mod-mul-add 1 n b (omega arith) in
          let whole : index + 1 + turn ≡ 1 * n + b = omega arith in
          let same : (index + 1 + turn) % n ≡ b = ap (λ x. x % n) whole ∙ e in
          (omega arith, λ (q : (index + 1 + turn) % n ≡ index). omega arith)
          )
    ]

pub turn_is : (n turn : ℕ) → turn + 1 < n → (turn + 1) % (n - 1) + 1 < n
turn_is n turn t = let l : (turn + 1) % (n - 1) < n - 1 = mod_below (turn + 1) (n - 1) (omega arith) in omega arith
