-- How a replica of the rules, with its disk, is a member of the machine.
-- The machine has no use for whether a stored entry reads: what is here is told as what is lost. So nothing moves when an entry is
-- found lost, and none of the machine's memories says Here between two steps.
use Rattle.std.specs.Prelude.{ℕ, ◌<◌, ◌≡◌, ◌≢◌, ⊤, List, [], length, slice_index_or, Option, Some, None}
use Rattle.vr_header.specs.declared.header.Header.{Header}
use Rattle.vr_header.specs.declared.part.Part.{Part}
use Rattle.vr_header.specs.declared.part.Part.TheVariants.{Here, Lost, Wanted, Unknown, Nothing}
use Rattle.vr_header.specs.Names.{name_by, root_by}
use Rattle.vr_msg.specs.Normal.{same_sum}
use Rattle.vr_super.specs.Copies.{SuperValue}
use Rattle.vr_rules.specs.Replica.{Replica, part_at, head}
use Rattle.vr_rules.specs.Opening.{listed}
use Rattle.vr_world.specs.Group as group
use Rattle.law_1_machine.specs.Headers.{Headers}
use Rattle.law_1_machine.specs.Parts as machine
use Rattle.law_1_machine.specs.Members.{Superblock, Memory}
use Rattle.law_1_machine.specs.Group.{Member}

-- entries by their headers, of a group
abbrev pub entries_by : (List ℕ → List ℕ) → ℕ → Headers Header
entries_by hash cluster = record {
  number = λ h. h.op;
  made = λ h. h.view;
  follows = λ d e. same_sum e.parent (name_by hash d);
  root = root_by hash cluster;
  root_number = λ i. 0;
}

abbrev pub told_of : Part → machine.Part Header
told_of (Here h) = machine.Lost h
told_of (Lost h) = machine.Lost h
told_of (Wanted h) = machine.Wanted h
told_of Unknown = machine.Unknown
told_of Nothing = machine.Nothing

-- a replica is what the memory says
pub record Reflects (r : Replica) (m : Memory Header) : Type 0 where
  pub view : m.view ≡ r.view
  pub log_view : m.log_view ≡ r.log_view
  pub checkpoint : m.checkpoint ≡ r.checkpoint
  pub commit : m.commit ≡ r.commit
  pub applied : m.applied ≡ r.applied
  pub reach : m.head ≡ head r
  pub parts : (k : ℕ) → m.parts k ≡ told_of (part_at r k)
  -- it has a state exactly where no block is missing
  pub loaded : r.missing ≡ [] → (l : List Header) × (m.state ≡ Some l)
  pub waits : r.missing ≢ [] → m.state ≡ None

-- a superblock's value is the machine's
pub record IsValue (v : SuperValue) (x : Superblock Header) : Type 0 where
  pub view : x.view ≡ v.fields.view
  pub log_view : x.log_view ≡ v.fields.log_view
  pub checkpoint : x.checkpoint ≡ v.fields.checkpoint
  pub commit : x.commit ≡ v.fields.commit
  pub reach : x.head ≡ v.fields.head
  pub names : (k : ℕ) → x.named k ≡ listed v k

abbrev pub IsUnder : Option SuperValue → Option (Superblock Header) → Type 0
IsUnder None None = ⊤
IsUnder None (Some x) = ⊥
IsUnder (Some v) None = ⊥
IsUnder (Some v) (Some x) = IsValue v x

-- a member's disk is that of the machine's member
pub record IsDisk (m : group.Member) (z : Member Header) : Type 0 where
  pub last : IsValue m.last z.last
  pub under : IsUnder m.under z.under
  pub slots : (s : ℕ) → z.slots s ≡ slice_index_or m.kept s None
  pub size : length m.kept ≡ 64

-- an entry that a replica has stored is kept, and the value that it saved last is the disk's
abbrev pub KeepsStored : Replica → group.Member → Type 0
KeepsStored r m = ((k : ℕ) (h : Header) → r.checkpoint < k → part_at r k ≡ Here h → group.kept_at m k ≡ Some h) × (m.last ≡ r.saved)
