-- Which members run.
use Rattle.std.proofs.Common.{◌≡◌, ◌≤◌, ℕ, zero, suc, List, [], ◌∷◌, length, refl, ap, arith}
use Rattle.std.specs.Prelude.{slice_set}

-- past the end nothing is set
pub set_past : {X : Type 0} (xs : List X) (i : ℕ) (x : X) → length xs ≤ i → slice_set xs i x ≡ xs
set_past [] i x h = refl
set_past (y ∷ ys) zero x h = absurd (omega (arith, h))
set_past (y ∷ ys) (suc i) x h = ap (λ zs. y ∷ zs) (set_past ys i x (omega (arith, h)))
