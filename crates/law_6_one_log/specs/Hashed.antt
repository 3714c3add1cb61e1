-- Blocks of checkpoints whose bytes were hashed for their names.
use Rattle.std.specs.Prelude.{ℕ, ◌<◌, ◌≡◌, List, Contains, Some}
use Rattle.std.specs.List.{AllByRecursion}
use Rattle.vr_header.specs.Spelling.{named_bytes}
use Rattle.vr_disk.specs.DiskState.{Face}
use Rattle.vr_state.specs.declared.texts.Texts.{Texts}
use Rattle.vr_ckpt.specs.Blocks.{Content, block_header, block_name, block_of}
use Rattle.vr_ckpt.specs.Grid.{named_at}
use Rattle.vr_ckpt.specs.Places.{grid_size}
use Rattle.vr_ckpt.specs.declared.name.Name.{Name}
use Rattle.vr_ckpt.specs.Saves.{written}
use Rattle.vr_ckpt.specs.declared.table.Payload.{Payload}
use Rattle.vr_ckpt.specs.declared.table.PayloadTable.{PayloadTable}

-- the payload of a block and what its header is named by were hashed
pub record IsHashedBlock (H : List ℕ → Type 0) (c : Content) : Type 0 where
  pub payload : H c.payload
  pub header : H (named_bytes (block_header c))

-- a payload with the name of such a block
pub record IsKept (H : List ℕ → Type 0) (p : Payload) : Type 0 where
  pub content : Content
  pub hashed : IsHashedBlock H content
  pub payload : content.payload ≡ p.bytes
  pub name : block_name content ≡ p.name
  pub address : p.name.address < grid_size

abbrev pub AllKept : (List ℕ → Type 0) → List Payload → Type 0
AllKept H ps = AllByRecursion (λ (p : Payload). IsKept H p) ps

pub record IsTable (H : List ℕ → Type 0) (t : PayloadTable) : Type 0 where
  pub sessions : AllKept H t.sessions
  pub keys : AllKept H t.keys

-- what is written of a checkpoint was hashed
abbrev pub IsWrittenOut : (List ℕ → Type 0) → ℕ → Texts → ℕ → PayloadTable → Type 0
IsWrittenOut H cluster texts op old = (c : Content) → Contains (written cluster texts op old) (block_of c) → IsHashedBlock H c

-- every block that reads on a disk was hashed
abbrev pub ReadsHashed : (List ℕ → Type 0) → Face → Type 0
ReadsHashed H f = (name : Name) (c : Content) → named_at f name ≡ Some c → IsHashedBlock H c
