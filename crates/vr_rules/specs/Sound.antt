-- What a replica keeps of itself between steps.
use Rattle.std.specs.Prelude.{ℕ, ◌+◌, ◌-◌, ◌%◌, ◌^◌, ◌<◌, ◌≤◌, ◌≡◌, ◌≢◌, true, false, is_some, List, [], length, slice_index_or, Some, None}
use Rattle.vr_base.specs.Bytes.{IsBytes, is_zeros}
use Rattle.vr_base.specs.Groups.{is_size}
use Rattle.vr_header.specs.declared.header.Header.{Header}
use Rattle.vr_header.specs.Spelling.{IsHeader}
use Rattle.vr_msg.specs.declared.statement.Statement.{Statement}
use Rattle.vr_msg.specs.Logs.{IsEntryAt, IsStatement}
use Rattle.vr_msg.specs.Numbers.{IsNumber}
use Rattle.vr_msg.specs.Spelling.{AreHeaders, known}
use Rattle.vr_state.specs.Sessions.{HaveNumbers}
use Rattle.vr_super.specs.Copies.{IsGood}
use Rattle.vr_rules.specs.Replica.{Replica, version, head, header_at, is_here, part_at, window_end}

-- checkpoint, applied, commit number, head and window stand in this order
pub record IsOrdered (r : Replica) : Type 0 where
  pub applied : r.checkpoint ≤ r.applied
  pub commit : r.applied ≤ r.commit
  pub known : r.commit ≤ head r
  pub window : head r ≤ window_end r
  pub views : r.log_view ≤ r.view
  pub number : IsNumber r.checkpoint

-- the lists of ops reach to the end of the window, and begin no later than with the op after the checkpoint
pub record IsListed (r : Replica) : Type 0 where
  pub first : 1 ≤ r.first
  pub reach : r.first ≤ r.checkpoint + 1
  pub parts : r.first + length r.parts ≡ r.checkpoint + 65
  pub ackers : length r.ackers ≡ length r.parts
  pub statements : length r.statements ≡ r.n
  -- no more than the last 64 ops up to the head are remembered
  pub few : head r < r.first + 64

-- the known header of an op is that of an entry of the group for it, of a version that the file takes, made in a view up to the log's
pub record KnowsEntries (r : Replica) : Type 0 where
  pub each : (k : ℕ) (h : Header) → header_at r k ≡ Some h → IsHeader h × IsEntryAt (version r) r.cluster r.log_view k h

-- what the others have stated is of a log of the group, of entries of versions up to this one, of no later view
pub record IsStated (v cluster last : ℕ) (s : Statement) : Type 0 where
  pub statement : IsStatement v cluster s
  pub values : AreHeaders (known s.body.parts)
  pub view : s.log_view ≤ last

pub record KnowsStatements (r : Replica) : Type 0 where
  pub each : (i : ℕ) (s : Statement) → slice_index_or r.statements i None ≡ Some s → IsStated (version r) r.cluster r.view s

pub record IsSound (r : Replica) : Type 0 where
  -- so many members as groups with its file may have
  pub size : is_size (version r) r.n ≡ true
  pub member : r.index < r.n
  pub order : IsOrdered r
  pub lists : IsListed r
  pub entries : KnowsEntries r
  pub stated : KnowsStatements r
  pub checkpoint : r.checkpoint % 32 ≡ 0
  -- the next checkpoint isn't reached
  pub near : r.applied < r.checkpoint + 32
  -- while blocks are missing nothing is applied
  pub waits : r.missing ≢ [] → r.applied ≡ r.checkpoint
  -- what its sessions answer can be replied
  pub numbers : HaveNumbers r.state.sessions

-- the bytes of a name
abbrev pub IsNameBytes : List ℕ → Type 0
IsNameBytes bytes = (length bytes ≡ 16) × IsBytes bytes

-- What it can save of itself beside: its numbers have their types, its root is that of a checkpoint, its last saved value makes a good copy,
-- and the header at its head is known, where that isn't 0.
pub record IsSavable (r : Replica) : Type 0 where
  pub cluster : r.cluster < 2 ^ 64
  pub view : r.view < 2 ^ 32
  pub log_view : r.log_view < 2 ^ 32 - 1
  pub address : r.root.address < 128
  pub name : IsNameBytes r.root.sum.0
  -- without a checkpoint there is no root
  pub none : r.checkpoint ≡ 0 → (r.root.address ≡ 0) × (is_zeros r.root.sum.0 ≡ true)
  -- what the superblock is mended from makes a good copy
  pub saved : IsGood r.saved
  pub top : 0 < head r → is_some (header_at r (head r)) ≡ true

-- It has applied all that it can: where no block is missing, and more is committed, the entry of the next op isn't here.
pub record IsCaughtUp (r : Replica) : Type 0 where
  pub next : r.missing ≡ [] → r.applied < r.commit → is_here (part_at r (r.applied + 1)) ≡ false
