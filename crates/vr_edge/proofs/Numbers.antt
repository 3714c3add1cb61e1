-- The numbers of a clock, of which some were given.
use Rattle.std.specs.Prelude.{◌≡◌, ◌+◌, ◌-◌, ◌<◌, ◌≤◌, ℕ, List, [], ◌∷◌, drop, length, slice_get, unwrap_or, refl}
use Rattle.std.proofs.Common.{arith, zero, suc}
use Rattle.vr_edge.specs.Told.{next_number, numbers_after}

pub next_of_rest : (numbers : List ℕ) (at : ℕ) → unwrap_or (slice_get numbers at) 0 ≡ next_number (drop at numbers)
next_of_rest [] zero = refl
next_of_rest [] (suc at) = refl
next_of_rest (n ∷ numbers) zero = refl
next_of_rest (n ∷ numbers) (suc at) = next_of_rest numbers at

pub after_moves : (numbers : List ℕ) (at : ℕ) → at < length numbers - 1
    → numbers_after (drop at numbers) ≡ drop (at + 1) numbers
after_moves [] at h = absurd (omega arith)
after_moves (n ∷ []) at h = absurd (omega arith)
after_moves (n ∷ m ∷ numbers) zero h = refl
after_moves (n ∷ m ∷ numbers) (suc at) h =
    let e : suc at + 1 ≡ suc (at + 1) = omega arith in rw e (after_moves (m ∷ numbers) at (omega arith))

pub after_stays : (numbers : List ℕ) (at : ℕ) → length numbers - 1 ≤ at
    → numbers_after (drop at numbers) ≡ drop at numbers
after_stays [] zero h = refl
after_stays [] (suc at) h = refl
after_stays (n ∷ []) zero h = refl
after_stays (n ∷ []) (suc zero) h = refl
after_stays (n ∷ []) (suc (suc at)) h = refl
after_stays (n ∷ m ∷ numbers) zero h = absurd (omega arith)
after_stays (n ∷ m ∷ numbers) (suc at) h = after_stays (m ∷ numbers) at (omega arith)
