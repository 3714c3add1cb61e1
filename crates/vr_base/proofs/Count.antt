-- Sets of replicas, counted.
use Rattle.std.proofs.Common.{ℕ, zero, suc, ◌+◌, ◌≤◌, ◌<◌, ◌≡◌, arith, refl, Bool, true, false, ◌&&◌}
use Rattle.std.proofs.lemmas.Bool.{and_parts}
use Rattle.vr_base.specs.Count.{count}

pub count-le : (f : ℕ → Bool) (n : ℕ) → count f n ≤ n
count-le f zero = omega arith
count-le f (suc n) = grind (arith, count-le f n)

-- two sets together have no more members than there are replicas and shared members
pub count_both : (f g : ℕ → Bool) (n : ℕ) → count f n + count g n ≤ n + count (λ i. f i && g i) n
count_both f g zero = omega arith
count_both f g (suc n) = grind (arith, count_both f g n)

-- a set that isn't empty has a member
pub member_of : (f : ℕ → Bool) (n : ℕ) → 0 < count f n → (i : ℕ) × (i < n) × (f i ≡ true)
member_of f zero h = absurd (omega arith)
member_of f (suc n) h =
    elim (f n) as (λ b. f n ≡ b → (i : ℕ) × (i < suc n) × (f i ≡ true)) [
      | true ↦ λ e. (n, omega arith, e)
      | false ↦ λ e. let m = member_of f n (grind arith) in (m.0, omega arith, m.2)
    ] refl

-- two sets of more than n members together share one
pub shared_member : (f g : ℕ → Bool) (n : ℕ) → n < count f n + count g n → (i : ℕ) × (i < n) × (f i ≡ true) × (g i ≡ true)
shared_member f g n h =
    let m = member_of (λ i. f i && g i) n (omega (arith, count_both f g n)) in
    let p = and_parts (f m.0) (g m.0) m.2 in
    (m.0, m.1, p.0, p.1)
