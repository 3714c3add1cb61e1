-- The two versions of files, frames and entries, and how much each allows.
use Rattle.std.specs.Prelude.{ℕ, Bool, ◌||◌, ◌==◌, if◌then◌else◌}

abbrev pub is_version : ℕ → Bool
is_version v = (v == 1) || (v == 2)

-- the one of version 1, or that of version 2
abbrev pub by_version : ℕ → ℕ → ℕ → ℕ
by_version v one two = if v == 2 then two else one

-- so many bytes at most has the body of an entry
abbrev pub body_limit : ℕ → ℕ
body_limit v = by_version v 1920 3968

-- and a value
abbrev pub value_limit : ℕ → ℕ
value_limit v = by_version v 1024 3000

-- a register leaves so many sessions at most
abbrev pub session_limit : ℕ → ℕ
session_limit v = by_version v 32 64
