-- The numbers that messages carry.
use Rattle.std.specs.Prelude.{ℕ, ◌-◌, ◌^◌, ◌<◌, ◌≤◌}

-- every view but the last
abbrev pub IsView : ℕ → Type 0
IsView view = view < 2 ^ 32 - 1

-- the number of an op, 0 for none
abbrev pub IsNumber : ℕ → Type 0
IsNumber op = op ≤ 2 ^ 62
