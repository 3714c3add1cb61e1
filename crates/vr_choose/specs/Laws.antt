-- Laws of counting and of the choice.
use Rattle.std.specs.Prelude.{ℕ, zero, suc, ◌+◌, ◌≤◌, ◌<◌, ◌≡◌, Bool, true, false, List, [], ◌++◌, Option, Some, IfSome, All, Contains, length}
use Rattle.std.specs.Option.{option_to_list}
use Rattle.std.specs.List.Sorted.{IsPermutation}
use Rattle.vr_base.specs.declared.table.Quorums.{Quorums}
use Rattle.vr_base.specs.Count.{count}
use Rattle.vr_base.specs.Groups.{quorums_of, AreQuorums}
use Rattle.vr_header.specs.declared.header.Header.{Header}
use Rattle.vr_msg.specs.declared.statement.Statement.{Statement}
use Rattle.vr_msg.specs.declared.choice.Choice.{Choice}
use Rattle.vr_msg.specs.Logs.{FromOp, IsEntryAt, IsStatement}
use Rattle.vr_msg.specs.Choice.{stated_header, top_view, top_commit, log_start, IsLog, choice, denies, named, farthest, EndsAt, IsChoice}

-- of the table of quorums, by the size of the group
abbrev pub EachColumn : Type 0
EachColumn = (n : ℕ) → IfSome (quorums_of n) (AreQuorums n)

-- a replica below n that is in both sets
abbrev pub Meet : ℕ → (ℕ → Bool) → (ℕ → Bool) → Type 0
Meet n f g = (i : ℕ) × (i < n) × (f i ≡ true) × (g i ≡ true)

abbrev pub LargeSetsMeet : Type 0
LargeSetsMeet = (n : ℕ) (f g : ℕ → Bool) → n < count f n + count g n → Meet n f g

abbrev pub QuorumsMeet : Type 0
QuorumsMeet =
    (n : ℕ) (f g : ℕ → Bool) → IfSome (quorums_of n) (λ q. q.replication ≤ count f n → q.view_change ≤ count g n → Meet n f g)

-- the statements that are there, in the order of the replicas
abbrev pub present : (ℕ → Option Statement) → ℕ → List Statement
present table zero = []
present table (suc n) = present table n ++ option_to_list (table n)

-- the replica has a statement that doesn't deny op k
abbrev pub Undenied : List Statement → ℕ → Option Statement → Type 0
Undenied ss k o = IfSome o (λ s. denies ss k s ≡ false)

-- Where each member of a replication quorum has no statement, or one that doesn't deny op head + 1, the log doesn't end at head.
abbrev pub KeepsUndenied : Type 0
KeepsUndenied =
    (n : ℕ) (table : ℕ → Option Statement) (set : ℕ → Bool) (head : ℕ)
    → ((i : ℕ) → i < n → set i ≡ true → Undenied (present table n) (head + 1) (table i))
    → IfSome (quorums_of n) (λ q. q.replication ≤ count set n → EndsAt q (present table n) head → ⊥)

-- statements decide one thing at most
abbrev pub DecidesOne : Type 0
DecidesOne = (q : Quorums) (ss : List Statement) (c : Choice) → IsChoice q ss c → c ≡ choice q ss

-- Statements in another order decide the same, where the same headers are named and the first one with the greatest commit number is the same.
abbrev pub KeepsOrder : Type 0
KeepsOrder =
    (q : Quorums) (ss ts : List Statement) → IsPermutation ss ts → ((k : ℕ) → named ss k ≡ named ts k) → farthest ss ≡ farthest ts
    → choice q ss ≡ choice q ts

-- those of the greatest log view that have a header at one op have the same one
abbrev pub NamesAgree : List Statement → Type 0
NamesAgree ss =
    (k : ℕ) (s t : Statement) (a b : Header) → Contains ss s → Contains ss t → s.log_view ≡ top_view ss → t.log_view ≡ top_view ss
    → stated_header k s ≡ Some a → stated_header k t ≡ Some b → a ≡ b

-- then statements in another order name the same headers
abbrev pub KeepsNames : Type 0
KeepsNames = (ss ts : List Statement) → IsPermutation ss ts → NamesAgree ss → (k : ℕ) → named ss k ≡ named ts k

-- the headers of a log that statements of one group give are those of entries of the group, in order, from its start on, of no later version than
-- theirs
abbrev pub HeadersStand : Type 0
HeadersStand =
    (version cluster : ℕ) (ss : List Statement) (head : ℕ) (headers : List Header) → All (IsStatement version cluster) ss → IsLog ss head headers
    → FromOp (IsEntryAt version cluster (top_view ss)) (log_start ss head + 1) headers

-- They are at most 64, where the log reaches no more than 64 above the greatest commit number.
abbrev pub HeadersFew : Type 0
HeadersFew =
    (ss : List Statement) (head : ℕ) (headers : List Header) → IsLog ss head headers → head ≤ top_commit ss + 64 → length headers ≤ 64
