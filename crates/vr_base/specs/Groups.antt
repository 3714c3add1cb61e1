-- How many members a group has, and its quorums.
use Rattle.std.specs.Prelude.{ℕ, Bool, ◌&&◌, ◌+◌, ◌-◌, ◌<◌, ◌≤◌, ◌≡◌, nat_le, Option, Some, None, if◌then◌else◌, ◌==◌}
use Rattle.vr_base.specs.Versions.{by_version}
use Rattle.vr_base.specs.declared.table.Quorums.{Quorums}

-- a group whose files are of this version has so many members at least
abbrev pub least_members : ℕ → ℕ
least_members v = by_version v 2 1

-- and 6 at most
abbrev pub is_size : ℕ → ℕ → Bool
is_size v n = nat_le (least_members v) n && nat_le n 6

-- a column of the table of quorums
abbrev pub these : ℕ → ℕ → ℕ → Option Quorums
these replication view_change nack =
    Some (record { replication = replication; view_change = view_change; nack = nack })

-- of a group of n replicas
abbrev pub quorums_of : ℕ → Option Quorums
quorums_of n =
    if n == 1 then these 1 1 1
    else (if n == 2 then these 2 2 1
    else (if n == 3 then these 2 2 2
    else (if n == 4 then these 2 3 3
    else (if n == 5 then these 3 3 3
    else (if n == 6 then these 3 4 4 else None)))))

-- what the quorums of a group of n replicas keep
pub record AreQuorums (n : ℕ) (q : Quorums) : Type 0 where
  -- any two such sets of replicas meet
  pub overlap : n < q.replication + q.view_change
  -- so many leave too few for a replication quorum
  pub nack : q.nack ≡ n - q.replication + 1
  pub replication_fits : q.replication ≤ n
  pub view_change_fits : q.view_change ≤ n
