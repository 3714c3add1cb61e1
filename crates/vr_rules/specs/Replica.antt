-- A replica between two events: what it has in memory.
use Rattle.std.specs.Prelude.{ℕ, ◌+◌, ◌-◌, Bool, true, false, ◌&&◌, ◌||◌, ◌==◌, ◌^◌, nat_lt, List, length, take, drop, reverse, filter_map, take_while, slice_index_or, slice_set, Option, if◌then◌else◌}
use Rattle.std.specs.List.{prefix_len}
use Rattle.std.specs.Option.{option_map_or}
use Rattle.vr_base.specs.declared.replicas.Replicas.{Replicas}
use Rattle.vr_base.specs.Groups.{quorums_of}
use Rattle.vr_base.specs.Replicas.{no_replicas}
use Rattle.vr_header.specs.declared.header.Header.{Header}
use Rattle.vr_header.specs.declared.part.Part.{Part}
use Rattle.vr_header.specs.declared.part.Part.TheVariants.{Here, Lost, Wanted, Unknown, Nothing}
use Rattle.vr_header.specs.Names.{root_by}
use Rattle.vr_msg.specs.declared.statement.Statement.{Statement}
use Rattle.vr_header.specs.Parts.{header_of, has_header}
use Rattle.vr_msg.specs.Normal.{primary}
use Rattle.vr_state.specs.declared.state.State.{State}
use Rattle.vr_super.specs.Copies.{SuperValue}
use Rattle.vr_ckpt.specs.declared.name.Name.{Name}
use Rattle.vr_ckpt.specs.declared.table.PayloadTable.{PayloadTable}

pub record Replica : Type 0 where
  -- the number of the group, of the replica in it, and how many replicas it has
  pub cluster : ℕ
  pub index : ℕ
  pub n : ℕ
  pub view : ℕ
  pub log_view : ℕ  -- the last view whose log it took over or began
  pub commit : ℕ
  pub applied : ℕ  -- the last op that is applied
  pub checkpoint : ℕ  -- the op of the checkpoint, 0 for none
  pub root : Name  -- the block that the checkpoint begins with
  pub table : PayloadTable  -- the payloads of the checkpoint's blocks
  pub state : State
  pub missing : List Name  -- the checkpoint's blocks that couldn't be read; while there are some, there is no state
  -- what is known of the ops from `first` to the end of the window, and which replicas have acknowledged each in this view
  pub first : ℕ
  pub parts : List Part
  pub ackers : List Replicas
  pub heard : Replicas  -- who is known to have entered this view, while it isn't started
  pub statements : List (Option Statement)  -- what each replica has stated of its log for this view
  pub idle : ℕ  -- ticks since the primary, or the last change of view, was heard of
  pub turn : ℕ  -- which peer is asked next
  pub cursor : ℕ  -- which place of the disk is visited next
  pub worn : List Name  -- the checkpoint's blocks that were found bad when they were visited; the state has what was in them
  pub saved : SuperValue  -- the superblock's value as last saved or opened

-- the version of its file, which its messages have, and the entries that it makes
abbrev pub version : Replica → ℕ
version r = r.saved.fields.version

-- ---- of its place in the group

abbrev pub replication : ℕ → ℕ
replication n = option_map_or (λ q. q.replication) (quorums_of n) 0

abbrev pub view_change : ℕ → ℕ
view_change n = option_map_or (λ q. q.view_change) (quorums_of n) 0

-- its group has no other replica
abbrev pub is_alone : Replica → Bool
is_alone r = r.n == 1

-- it has the log of its view
abbrev pub is_started : Replica → Bool
is_started r = r.view == r.log_view

-- it is the primary of its view
abbrev pub is_primary : Replica → Bool
is_primary r = r.index == primary r.n r.view

abbrev pub leads : Replica → Bool
leads r = is_started r && is_primary r

-- the last view that may be entered
abbrev pub last_view : ℕ
last_view = 2 ^ 32 - 2

-- views or sequence numbers are at their end: it ignores every event
abbrev pub is_spent : Replica → Bool
is_spent r = nat_lt (2 ^ 64 - 256) r.saved.fields.sequence

abbrev pub is_frozen : Replica → Bool
is_frozen r = nat_lt last_view r.view || is_spent r

-- ---- of its log

-- the window has the 64 ops above the checkpoint
abbrev pub window_end : Replica → ℕ
window_end r = r.checkpoint + 64

-- of op k; nothing is known of forgotten ops and past the window
unfoldable pub part_at : Replica → ℕ → Part
part_at r k = if nat_lt k r.first then Nothing else slice_index_or r.parts (k - r.first) Nothing

abbrev pub header_at : Replica → ℕ → Option Header
header_at r k = header_of (part_at r k)

abbrev pub knows : Replica → ℕ → Bool
knows r k = has_header (part_at r k)

-- the Parts from op k on
abbrev pub parts_from : Replica → ℕ → List Part
parts_from r k = drop (k - r.first) r.parts

-- the greatest op up to which, above the checkpoint, each header is known
unfoldable pub head : Replica → ℕ
head r = r.checkpoint + prefix_len has_header (parts_from r (r.checkpoint + 1))

-- the known headers that reach the head without a hole
unfoldable pub run : Replica → List Header
run r = reverse (filter_map header_of (take_while has_header (reverse (take (head r + 1 - r.first) r.parts))))

-- the op below the first of them
abbrev pub run_start : Replica → ℕ
run_start r = head r - length (run r)

-- what the next entry stands on
abbrev pub head_header : (List ℕ → List ℕ) → Replica → Header
head_header hash r = option_map_or (λ h. h) (header_at r (head r)) (root_by hash r.cluster)

abbrev pub is_here : Part → Bool
is_here (Here h) = true
is_here (Lost h) = false
is_here (Wanted h) = false
is_here Unknown = false
is_here Nothing = false

-- its header is known, and its entry isn't stored or can't be read
abbrev pub is_absent : Part → Bool
is_absent (Here h) = false
is_absent (Lost h) = true
is_absent (Wanted h) = true
is_absent Unknown = false
is_absent Nothing = false

abbrev pub is_nothing : Part → Bool
is_nothing (Here h) = false
is_nothing (Lost h) = false
is_nothing (Wanted h) = false
is_nothing Unknown = false
is_nothing Nothing = true

-- up to the last that isn't Nothing
abbrev pub trimmed : List Part → List Part
trimmed ps = take (length ps - prefix_len is_nothing (reverse ps)) ps

abbrev pub ackers_at : Replica → ℕ → Replicas
ackers_at r k = slice_index_or r.ackers (k - r.first) no_replicas

-- what it states of its log
unfoldable pub statement_of : Replica → Statement
statement_of r = record {
  log_view = r.log_view;
  commit = r.commit;
  head = head r;
  body = record { first = run_start r + 1; parts = trimmed (parts_from r (run_start r + 1)) };
}

-- ---- changes of it

-- Only the last 64 ops up to the head are remembered: the others are forgotten for good.
unfoldable pub forgetting : Replica → Replica
forgetting r =
    let gone = head r - 63 - r.first in
    record r { first = r.first + gone; parts = drop gone r.parts; ackers = drop gone r.ackers }

unfoldable pub with_part : ℕ → Part → Replica → Replica
with_part k p r = record r { parts = slice_set r.parts (k - r.first) p }
