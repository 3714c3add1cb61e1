-- Quorums, by their sizes alone.
-- An entry is committed when a replication quorum has it, and a new view may leave an entry out only when a nack quorum denies it.
-- The sizes are matched so that a quorum of the one kind always shares a member with a quorum of the other. Beyond this the proof uses
-- only that a replication quorum isn't empty.
use Rattle.std.specs.Prelude.{ℕ, zero, suc, ◌+◌, ◌≤◌, ◌<◌, ◌≡◌, Bool, cond, ◌==◌}

-- the sizes in a group of n members, which are numbered from 0
pub record Quorums : Type 0 where
  pub n : ℕ
  pub replication : ℕ
  pub nack : ℕ
  pub overlap : replication + nack ≡ n + 1
  pub not_empty : 0 < replication

-- how many of the first n members pass a test
abbrev pub count : (ℕ → Bool) → ℕ → ℕ
count f zero = 0
count f (suc n) = count f n + cond (f n) 1 0

-- a column of the table of quorums
pub record Column : Type 0 where
  pub replication : ℕ
  pub view_change : ℕ
  pub nack : ℕ

-- what is asked of the column for n members: a replication quorum meets each nack quorum and each view-change quorum, and a
-- view-change quorum is large enough to end a log
pub record Fits (n : ℕ) (c : Column) : Type 0 where
  pub overlap : c.replication + c.nack ≡ n + 1
  pub not_empty : 0 < c.replication
  pub heard : n < c.replication + c.view_change
  pub ends : c.nack ≤ c.view_change

-- the sizes of a column that fits
abbrev pub sizes : (n : ℕ) (c : Column) → Fits n c → Quorums
sizes n c f = record { n = n; replication = c.replication; nack = c.nack; overlap = f.overlap; not_empty = f.not_empty }

-- the table: for 1 to 6 members
abbrev pub column : ℕ → ℕ → ℕ → Column
column r v n = record { replication = r; view_change = v; nack = n }

abbrev pub table : ℕ → Column
table n = cond (n == 1) (column 1 1 1) (cond (n == 2) (column 2 2 1) (cond (n == 3) (column 2 2 2) (cond (n == 4) (column 2 3 3) (cond (n == 5) (column 3 3 3) (column 3 4 4)))))

-- each table fits at each size from 1 to 6 at which it agrees with this one
abbrev pub TableFits : Type 0
TableFits = (quorums : ℕ → Column) (n : ℕ) → 1 ≤ n → n ≤ 6 → quorums n ≡ table n → Fits n (quorums n)
