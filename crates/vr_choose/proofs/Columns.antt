-- The columns of the table of quorums.
use Rattle.std.proofs.Common.{ℕ, rules, Option, Some, None}
use Rattle.std.specs.Prelude.{IfSome}
use Rattle.vr_base.specs.declared.table.Quorums.{Quorums}
use Rattle.vr_base.specs.Groups.{quorums_of, AreQuorums}

pub column : (n : ℕ) → IfSome (quorums_of n) (AreQuorums n)
column n = search (rules)

-- from what the quorums of a group keep
pub of_quorums : (n : ℕ) (P : Quorums → Type 0) → ((q : Quorums) → AreQuorums n q → P q) → IfSome (quorums_of n) P
of_quorums n P h = each (quorums_of n) (column n) where
  each : (o : Option Quorums) → IfSome o (AreQuorums n) → IfSome o P
  each None a = tt
  each (Some q) a = h q a
