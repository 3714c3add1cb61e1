-- Numbers that come one after the other, each of the one before.
use Rattle.std.specs.Prelude.{ℕ, zero, suc, ◌+◌, ◌*◌, ◌/◌, ◌%◌, ◌^◌}

-- the number that a draw makes of a number
unfoldable pub next_number : ℕ → ℕ
next_number x = (x * 6364136223846793005 + 1442695040888963407) % 2 ^ 64

-- the number after so many draws
unfoldable pub after_draws : ℕ → ℕ → ℕ
after_draws x zero = x
after_draws x (suc k) = next_number (after_draws x k)

-- what the k-th draw from a number gives, counted from 1: the upper 31 bits of the number that it makes
unfoldable pub draw : ℕ → ℕ → ℕ
draw x k = after_draws x k / 2 ^ 33

-- what is drawn, and the number that is drawn from afterwards
pub record Drawn (X : Type 0) : Type 0 where
  pub value : X
  pub number : ℕ
