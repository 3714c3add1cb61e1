-- What a message may say of a log.
use Rattle.std.specs.Prelude.{ℕ, ◌≡◌, ◌≢◌, ◌+◌, ◌-◌, ◌≤◌, ⊤, Bool, List, [], ◌∷◌, length, slice_get, Option, Some, None, is_some}
use Rattle.std.specs.List.{prefix_len}
use Rattle.vr_header.specs.declared.header.Header.{Header}
use Rattle.vr_header.specs.declared.part.Part.{Part}
use Rattle.vr_header.specs.declared.part.Part.TheVariants.{Here, Lost, Wanted, Unknown, Nothing}
use Rattle.vr_header.specs.Made.{IsEntryHeader}
use Rattle.vr_header.specs.Parts.{has_header}
use Rattle.vr_msg.specs.declared.statement.Statement.{Statement}
use Rattle.vr_msg.specs.Numbers.{IsNumber}

-- of each item, with its op: the first one's, and one more for each later one
abbrev pub FromOp : {X : Type 0} → (ℕ → X → Type 0) → ℕ → List X → Type 0
FromOp P op [] = ⊤
FromOp P op (x ∷ xs) = P op x × FromOp P (op + 1) xs

-- the header of an entry of this group and op, made in a view up to the last one that is allowed, and of this version or an earlier one
pub record IsEntryAt (version cluster last op : ℕ) (h : Header) : Type 0 where
  pub entry : IsEntryHeader h
  pub of_version : h.version ≤ version
  pub of_group : h.cluster ≡ cluster
  pub at_op : h.op ≡ op
  pub made : h.view ≤ last

-- the header that the Part knows, if any, is of an entry
abbrev pub IsPartAt : ℕ → ℕ → ℕ → ℕ → Part → Type 0
IsPartAt version cluster last op (Here h) = IsEntryAt version cluster last op h
IsPartAt version cluster last op (Lost h) = IsEntryAt version cluster last op h
IsPartAt version cluster last op (Wanted h) = IsEntryAt version cluster last op h
IsPartAt version cluster last op Unknown = ⊤
IsPartAt version cluster last op Nothing = ⊤

-- what a statement says of the ops of a group, with entries of this version or an earlier one
pub record IsStatement (version cluster : ℕ) (s : Statement) : Type 0 where
  pub commit : s.commit ≤ s.head
  pub head : IsNumber s.head
  pub first : (1 ≤ s.body.first) × (s.body.first ≤ s.commit + 1)
  -- the Parts from first to the head know their headers, at most 64, and the next one doesn't
  pub run : s.body.first + prefix_len has_header s.body.parts ≡ s.head + 1
  pub short : prefix_len has_header s.body.parts ≤ 64
  pub count : length s.body.parts ≤ 128
  pub last : slice_get s.body.parts (length s.body.parts - 1) ≢ Some Nothing
  pub parts : FromOp (IsPartAt version cluster s.log_view) s.body.first s.body.parts
