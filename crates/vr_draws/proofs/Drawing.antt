-- The first draws from a number.
use Rattle.std.proofs.Common.{◌≡◌, ◌/◌, ◌^◌, ℕ, refl}
use Rattle.vr_draws.specs.Draws.{after_draws, draw, next_number}

pub first_draw : (x : ℕ) → draw x 1 ≡ next_number x / 2 ^ 33
unfolding draw after_draws
first_draw x = refl
