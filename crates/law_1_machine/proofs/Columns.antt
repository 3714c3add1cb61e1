-- The columns of the table of quorums fit, one by one.
use Rattle.std.proofs.Common.{ℕ, ◌≤◌, ◌≡◌, inl, inr, arith, refl, sym, subst}
use Rattle.std.proofs.lemmas.Bool.{cases_eq}
use Rattle.law_1_machine.specs.Quorums.{Fits, table, TableFits}

-- at a size that is this number
at : (m : ℕ) → Fits m (table m) → (n : ℕ) → n ≡ m → Fits n (table n)
at m f n e = subst (λ i. Fits i (table i)) (sym e) f

columns_fit : (n : ℕ) → 1 ≤ n → n ≤ 6 → Fits n (table n)
columns_fit n lo hi =
    elim (cases_eq n 1) [
      | inl e ↦ at 1 (record { overlap = refl; not_empty = omega arith; heard = omega arith; ends = omega arith }) n e
      | inr not_1 ↦ elim (cases_eq n 2) [
        | inl e ↦ at 2 (record { overlap = refl; not_empty = omega arith; heard = omega arith; ends = omega arith }) n e
        | inr not_2 ↦ elim (cases_eq n 3) [
          | inl e ↦ at 3 (record { overlap = refl; not_empty = omega arith; heard = omega arith; ends = omega arith }) n e
          | inr not_3 ↦ elim (cases_eq n 4) [
            | inl e ↦ at 4 (record { overlap = refl; not_empty = omega arith; heard = omega arith; ends = omega arith }) n e
            | inr not_4 ↦ elim (cases_eq n 5) [
              | inl e ↦ at 5 (record { overlap = refl; not_empty = omega arith; heard = omega arith; ends = omega arith }) n e
              | inr not_5 ↦ at 6 (record { overlap = refl; not_empty = omega arith; heard = omega arith; ends = omega arith }) n (omega (arith, not_1, not_2, not_3, not_4, not_5))
            ]
          ]
        ]
      ]
    ]

pub table_fits : TableFits
table_fits quorums n lo hi same = subst (Fits n) (sym same) (columns_fit n lo hi)
