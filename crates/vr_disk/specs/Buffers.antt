-- A buffer's bytes.
use Rattle.std.specs.Prelude.{ℕ, ◌≡◌, ◌≤◌, ◌-◌, List, length, drop, replicate}

-- 4,096 bytes, of which so many in front may be something else than zeros
pub record IsUsed (used : ℕ) (bytes : List ℕ) : Type 0 where
  pub size : length bytes ≡ 4096
  pub most : used ≤ 4096
  pub rest : drop used bytes ≡ replicate (4096 - used) 0
