-- How many members groups have.
use Rattle.std.proofs.Common.{ℕ, zero, suc, ◌≡◌, ◌∙◌, inl, inr, sym, ◌≤◌, ◌<◌, arith, refl, cond, eqb, true, false}
use Rattle.std.specs.Prelude.{is_some, nat_le}
use Rattle.std.proofs.lemmas.Bool.{and_from, and_parts, cases_lt, le-leb, leb-true, ne_eqb, true≢false}
use Rattle.vr_base.specs.Groups.{is_size, least_members, quorums_of}

-- whatever the version, a group has a member, and may have two
pub least_of : (v : ℕ) → (1 ≤ least_members v) × (least_members v ≤ 2)
least_of v = elim (eqb v 2) as (λ t. (1 ≤ cond t 1 2) × (cond t 1 2 ≤ 2)) [ true ↦ (omega arith, omega arith) | false ↦ (omega arith, omega arith) ]

pub sized : (v n : ℕ) → is_size v n ≡ true → (least_members v ≤ n) × (n ≤ 6)
sized v n e = let p = and_parts (nat_le (least_members v) n) (nat_le n 6) e in (leb-true (least_members v) n p.0, leb-true n 6 p.1)

pub is_sized : (v n : ℕ) → least_members v ≤ n → n ≤ 6 → is_size v n ≡ true
is_sized v n least most = and_from (nat_le (least_members v) n) (nat_le n 6) (le-leb (least_members v) n least) (le-leb n 6 most)

-- groups of 1 to 6 have quorums
pub some_quorums : (n : ℕ) → 1 ≤ n → n ≤ 6 → is_some (quorums_of n) ≡ true
some_quorums zero a b = absurd (omega (arith, a))
some_quorums (suc zero) a b = refl
some_quorums (suc (suc zero)) a b = refl
some_quorums (suc (suc (suc zero))) a b = refl
some_quorums (suc (suc (suc (suc zero)))) a b = refl
some_quorums (suc (suc (suc (suc (suc zero))))) a b = refl
some_quorums (suc (suc (suc (suc (suc (suc zero)))))) a b = refl
some_quorums (suc (suc (suc (suc (suc (suc (suc n))))))) a b = absurd (omega (arith, b))

-- and no others
pub quorums_size : (n : ℕ) → is_some (quorums_of n) ≡ true → (1 ≤ n) × (n ≤ 6)
quorums_size n e =
    elim (cases_lt n 1) [
      | inl none ↦ let zero_is : n ≡ 0 = omega (arith, none) in absurd (let bad : false ≡ true = rw zero_is at e in cc)
      | inr some ↦ elim (cases_lt 6 n) [
        | inr few ↦ (some, few)
        | inl many ↦ absurd (true≢false (sym e ∙ rw (differs 1 (omega (arith, many)), differs 2 (omega (arith, many)), differs 3 (omega (arith, many)), differs 4 (omega (arith, many)), differs 5 (omega (arith, many)), differs 6 (omega (arith, many))) refl))
      ]
    ]
  where
    differs : (k : ℕ) → k < n → eqb n k ≡ false
    differs k l = ne_eqb n k (λ same. absurd (omega (arith, l, same)))
