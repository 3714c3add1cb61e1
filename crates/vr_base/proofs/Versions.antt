-- What a number by version comes to.
use Rattle.std.proofs.Common.{ℕ, ◌≡◌, ◌≤◌, inl, inr, Bool, true, false, cond, eqb, refl, arith}
use Rattle.std.specs.Prelude.{◌||◌}
use Rattle.std.proofs.lemmas.Bool.{cases_lt, eqb-true}
use Rattle.vr_base.specs.Versions.{by_version, is_version}

-- between the two
pub between : (v one two : ℕ) → one ≤ two → (one ≤ by_version v one two) × (by_version v one two ≤ two)
between v one two l = elim (eqb v 2) as (λ t. (one ≤ cond t two one) × (cond t two one ≤ two)) [ true ↦ (l, omega arith) | false ↦ (omega arith, l) ]

-- a later version allows no less
pub more : (v w one two : ℕ) → v ≤ w → w ≤ 2 → one ≤ two → by_version v one two ≤ by_version w one two
more v w one two l m k = cases (eqb v 2) refl
  where
    two_then : v ≡ 2 → two ≤ cond (eqb w 2) two one
    two_then e = let same : w ≡ 2 = omega (arith, l, m, e) in rw same (omega arith)

    least : (t : Bool) → one ≤ cond t two one
    least true = k
    least false = omega arith

    cases : (s : Bool) → eqb v 2 ≡ s → cond s two one ≤ cond (eqb w 2) two one
    cases true e = two_then (eqb-true v 2 e)
    cases false e = least (eqb w 2)

pub version_of : (v : ℕ) → is_version v ≡ true → (1 ≤ v) × (v ≤ 2)
version_of v e =
    let cases : (s : Bool) → eqb v 1 ≡ s → (s || eqb v 2) ≡ true → (1 ≤ v) × (v ≤ 2) =
    elim [
      | true ↦ λ a b. let one = eqb-true v 1 a in (omega arith, omega arith)
      | false ↦ λ a b. let two = eqb-true v 2 b in (omega arith, omega arith)
    ] in
    cases (eqb v 1) refl e

pub is_version_of : (v : ℕ) → (1 ≤ v) × (v ≤ 2) → is_version v ≡ true
is_version_of v l = elim (cases_lt 1 v) [
  | inl above ↦ let two : v ≡ 2 = omega (arith, l, above) in rw two refl
  | inr low ↦ let one : v ≡ 1 = omega (arith, l, low) in rw one refl
]
