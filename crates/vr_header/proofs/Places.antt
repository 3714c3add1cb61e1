-- Empty places.
use Rattle.std.proofs.Common.{ℕ, zero, suc, ◌+◌, ◌≡◌, refl, ap, [], ◌∷◌, ◌++◌, add-one, replicate}

pub one_more : {X : Type 0} (i : ℕ) (x : X) → replicate i x ++ x ∷ [] ≡ replicate (i + 1) x
one_more zero x = refl
one_more (suc i) x = rw add-one (ap (λ zs. x ∷ zs) (rw add-one at (one_more i x)))
