-- What the form of a statement says of its numbers.
use Rattle.std.proofs.Common.{ℕ, ◌+◌, ◌-◌, ◌≤◌, ◌<◌, ◌≡◌, ◌^◌, arith, true, List, length, get_or}
use Rattle.std.specs.Prelude.{IsSome, All}
use Rattle.std.specs.List.{prefix_len}
use Rattle.std.proofs.lemmas.Bool.{le-ltb}
use Rattle.std.proofs.lemmas.List.Elements.{All-weaker}
use Rattle.std.proofs.lemmas.List.Sums.{prefix_len_passes}
use Rattle.vr_header.specs.declared.part.Part.TheVariants.{Nothing}
use Rattle.vr_header.specs.Parts.{has_header}
use Rattle.vr_msg.specs.declared.statement.Statement.{Statement}
use Rattle.vr_msg.specs.Logs.{IsStatement}
use Rattle.vr_msg.specs.Choice.{stated_header}
use Rattle.vr_choose.specs.Statements.{IsSomeStatement}

pub record IsBounded (s : Statement) : Type 0 where
  pub first : 1 ≤ s.body.first
  pub near : s.body.first ≤ s.commit + 1
  pub committed : s.commit ≤ s.head
  pub short : length s.body.parts ≤ 128
  pub small : s.head ≤ 2 ^ 62
  -- its headers from first to head are known
  pub known : (k : ℕ) → s.body.first ≤ k → k ≤ s.head → IsSome (stated_header k s)

known_of : (version cluster : ℕ) (s : Statement) → IsStatement version cluster s → (k : ℕ) → s.body.first ≤ k → k ≤ s.head → IsSome (stated_header k s)
known_of version cluster s is k l m =
    let xs = s.body.parts in
    let run = is.run in
    let place : k - s.body.first < prefix_len has_header xs = omega arith in
    let passes : has_header (get_or xs (k - s.body.first) Nothing) ≡ true = prefix_len_passes has_header xs (k - s.body.first) Nothing place in
    rw (le-ltb k s.body.first l) passes

pub bounds_of : (s : Statement) → IsSomeStatement s → IsBounded s
bounds_of s some =
    let is = some.statement in
    record {
      first = is.first.0;
      near = is.first.1;
      committed = is.commit;
      short = is.count;
      small = is.head;
      known = known_of some.version some.cluster s is;
    }

pub bounded : (ss : List Statement) → All IsSomeStatement ss → All IsBounded ss
bounded ss all = All-weaker IsSomeStatement IsBounded bounds_of ss all

-- statements of one group are statements of some group
pub some_statements : (version cluster : ℕ) (ss : List Statement) → All (IsStatement version cluster) ss → All IsSomeStatement ss
some_statements version cluster ss all =
    All-weaker (IsStatement version cluster) IsSomeStatement (λ s is. record { version = version; cluster = cluster; statement = is }) ss all
