-- What a choice is made from.
use Rattle.std.specs.Prelude.{ℕ}
use Rattle.vr_msg.specs.declared.statement.Statement.{Statement}
use Rattle.vr_msg.specs.Logs.{IsStatement}

-- a statement as replicas of some group make it
pub record IsSomeStatement (s : Statement) : Type 0 where
  pub version : ℕ
  pub cluster : ℕ
  pub statement : IsStatement version cluster s
