-- The choice of the log that a new view begins with, from statements of replicas, in the order of the replicas.
use Rattle.std.specs.Prelude.{ℕ, ◌+◌, ◌-◌, ◌≤◌, ◌<◌, ◌≡◌, ◌==◌, Bool, true, false, not, ◌&&◌, nat_lt, nat_le, if◌then◌else◌, List, [], ◌∷◌, length, max, min, Option, None, Some, is_some, slice_index_or, slice_get, count_by, Any}
use Rattle.std.specs.List.{list_any, find, filter_map, prefix_len, range_with_len}
use Rattle.std.specs.Option.{option_and_then, option_map_or}
use Rattle.vr_base.specs.declared.table.Quorums.{Quorums}
use Rattle.vr_header.specs.declared.header.Header.{Header}
use Rattle.vr_header.specs.declared.part.Part.{Part}
use Rattle.vr_header.specs.declared.part.Part.TheVariants.{Here, Lost, Wanted, Unknown, Nothing}
use Rattle.vr_msg.specs.declared.statement.Statement.{Statement}
use Rattle.vr_msg.specs.declared.choice.Choice.{Choice}
use Rattle.vr_msg.specs.declared.choice.Choice.TheVariants.{Ends, WaitsAt, TooFew}
use Rattle.vr_header.specs.Same.{same_header}
use Rattle.vr_header.specs.Parts.{header_of}

-- What a statement says of op k: it has nothing before its list and past it.
abbrev pub stated_part : ℕ → Statement → Part
stated_part k s = if nat_lt k s.body.first then Nothing else slice_index_or s.body.parts (k - s.body.first) Nothing

-- the header that it knows
abbrev pub stated_header : ℕ → Statement → Option Header
stated_header k s = header_of (stated_part k s)

-- the greatest log view
abbrev pub top_view : List Statement → ℕ
top_view [] = 0
top_view (s ∷ ss) = max s.log_view (top_view ss)

-- the greatest commit number
abbrev pub top_commit : List Statement → ℕ
top_commit [] = 0
top_commit (s ∷ ss) = max s.commit (top_commit ss)

-- The header named at k: that of the first statement of log view w with a header there.
unfoldable pub named_by : ℕ → ℕ → List Statement → Option Header
named_by w k ss = option_and_then (stated_header k) (find (λ s. (s.log_view == w) && is_some (stated_header k s)) ss)

-- the header named at k by the greatest log view
abbrev pub named : List Statement → ℕ → Option Header
named ss k = named_by (top_view ss) k ss

-- a part that has the entry of this header
abbrev pub is_here : Header → Part → Bool
is_here e (Here h) = same_header h e
is_here e (Lost h) = false
is_here e (Wanted h) = false
is_here e Unknown = false
is_here e Nothing = false

-- whether some statement has the entry of the header named at k
abbrev pub intact_by : Option Header → ℕ → List Statement → Bool
intact_by None k ss = false
intact_by (Some e) k ss = list_any (λ s. is_here e (stated_part k s)) ss

abbrev pub intact : List Statement → ℕ → Bool
intact ss k = intact_by (named ss k) k ss

-- Op k is intact: some statement has the entry of the named header.
pub record IsIntact (ss : List Statement) (k : ℕ) : Type 0 where
  pub header : Header
  pub is_named : named ss k ≡ Some header
  pub here : Any (λ s. stated_part k s ≡ Here header) ss

-- A statement of the greatest log view denies an op of which it has nothing, or which it never stored.
abbrev pub denies_as_newest : Part → Bool
denies_as_newest (Here h) = false
denies_as_newest (Lost h) = false
denies_as_newest (Wanted h) = true
denies_as_newest Unknown = false
denies_as_newest Nothing = true

-- An older statement denies the named header also where it has another one.
abbrev pub denies_named : Header → Part → Bool
denies_named e (Here h) = not (same_header h e)
denies_named e (Lost h) = not (same_header h e)
denies_named e (Wanted h) = true
denies_named e Unknown = false
denies_named e Nothing = true

-- An older statement denies each op at which no header is named.
abbrev pub denies_as_older : Option Header → Part → Bool
denies_as_older None part = true
denies_as_older (Some e) part = denies_named e part

-- the statement denies op k, where w is the greatest log view and e the header named at k
abbrev pub denies_by : ℕ → Option Header → ℕ → Statement → Bool
denies_by w e k s = if s.log_view == w then denies_as_newest (stated_part k s) else denies_as_older e (stated_part k s)

abbrev pub denies : List Statement → ℕ → Statement → Bool
denies ss k s = denies_by (top_view ss) (named ss k) k s

-- how many deny op k
abbrev pub denials : List Statement → ℕ → ℕ
denials ss k = count_by (denies ss k) ss

-- k is the least op above the greatest commit number that isn't intact
pub record IsGap (ss : List Statement) (k : ℕ) : Type 0 where
  pub above : top_commit ss < k
  pub whole : (j : ℕ) → top_commit ss < j → j < k → IsIntact ss j
  pub broken : ¬ IsIntact ss k

-- the first statement with the greatest commit number
abbrev pub farthest : List Statement → Option Statement
farthest ss = find (λ s. s.commit == top_commit ss) ss

-- The op below the first header of a log that ends at head: up to the greatest commit number the headers are those of the first statement
-- that has it, as far as its list reaches down and at most 64 below the head.
abbrev pub start_of : ℕ → ℕ → Statement → ℕ
start_of commit head s = min commit (max (s.body.first - 1) (head - 64))

abbrev pub log_start : List Statement → ℕ → ℕ
log_start ss head = option_map_or (start_of (top_commit ss) head) (farthest ss) (top_commit ss)

-- the header of op k in the new log
abbrev pub chosen_header : List Statement → ℕ → Option Header
chosen_header ss k = if nat_le k (top_commit ss) then option_and_then (stated_header k) (farthest ss) else named ss k

-- the headers of the log that ends at head, in order
pub record IsLog (ss : List Statement) (head : ℕ) (headers : List Header) : Type 0 where
  pub whole : log_start ss head + length headers ≡ head
  pub each : (k : ℕ) → log_start ss head < k → k ≤ head → slice_get headers (k - (log_start ss head + 1)) ≡ chosen_header ss k

-- the log ends at head
pub record EndsAt (q : Quorums) (ss : List Statement) (head : ℕ) : Type 0 where
  pub enough : q.view_change ≤ length ss
  pub next : IsGap ss (head + 1)
  pub denied : q.nack ≤ denials ss (head + 1)

-- it isn't decided whether the log has op k
pub record Waits (q : Quorums) (ss : List Statement) (k : ℕ) : Type 0 where
  pub enough : q.view_change ≤ length ss
  pub next : IsGap ss k
  pub undecided : denials ss k < q.nack

pub record EndsWith (q : Quorums) (ss : List Statement) (headers : List Header) : Type 0 where
  pub head : ℕ
  pub ends : EndsAt q ss head
  pub log : IsLog ss head headers

-- what the statements decide
abbrev pub IsChoice : Quorums → List Statement → Choice → Type 0
IsChoice q ss TooFew = length ss < q.view_change
IsChoice q ss (WaitsAt k) = Waits q ss k
IsChoice q ss (Ends headers) = EndsWith q ss headers

-- The choice as a function.

-- the ops above low up to high, in order
abbrev pub ops : ℕ → ℕ → List ℕ
ops low high = range_with_len (low + 1) (high - low)

-- one past the last op of which a statement says something
abbrev pub reach : List Statement → ℕ
reach [] = 0
reach (s ∷ ss) = max (s.body.first + length s.body.parts) (reach ss)

-- the end of the row of intact ops above the greatest commit number
unfoldable pub row_end : List Statement → ℕ
row_end ss = top_commit ss + prefix_len (intact ss) (ops (top_commit ss) (reach ss))

-- the headers of the log that ends at head
unfoldable pub log_headers : List Statement → ℕ → List Header
log_headers ss head = filter_map (chosen_header ss) (ops (log_start ss head) head)

-- what the statements decide
unfoldable pub choice : Quorums → List Statement → Choice
choice q ss =
    if nat_lt (length ss) q.view_change then TooFew
    else (if nat_le q.nack (denials ss (row_end ss + 1)) then Ends (log_headers ss (row_end ss)) else WaitsAt (row_end ss + 1))

abbrev pub is_end : Choice → Bool
is_end (Ends headers) = true
is_end (WaitsAt k) = false
is_end TooFew = false
