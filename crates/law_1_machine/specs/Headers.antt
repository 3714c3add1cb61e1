-- Headers of log entries, of any type.
-- All that the protocol's safety needs of an entry is its header: its number in the log, the view in which it was made,
-- and on which header it stands. The log begins with a root, at number 0.
use Rattle.std.specs.Prelude.{ℕ, ◌≡◌, Bool}

-- what the protocol reads of a header of type H
pub record Headers (H : Type 0) : Type 0 where
  -- its place in the log (the op number)
  pub number : H → ℕ
  -- the view whose primary made it
  pub made : H → ℕ
  -- whether the second stands on the first
  pub follows : H → H → Bool
  pub root : H
  pub root_number : number root ≡ 0
