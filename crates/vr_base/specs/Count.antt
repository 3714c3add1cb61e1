-- A set of replicas is a test of their numbers, counted below n.
use Rattle.std.specs.Prelude.{ℕ, zero, suc, ◌+◌, Bool, cond}

-- how many of the numbers below n are in the set
abbrev pub count : (ℕ → Bool) → ℕ → ℕ
count f zero = 0
count f (suc n) = count f n + cond (f n) 1 0
