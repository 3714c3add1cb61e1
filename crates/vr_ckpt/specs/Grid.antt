-- Blocks on a disk: what is read under a name, and the calls that write one.
use Rattle.std.specs.Prelude.{ℕ, ◌≡◌, true, false, nat_lt, if◌then◌else◌, List, [], ◌∷◌, ◌++◌, length, Option, None, Some, Result, Ok, Err}
use Rattle.std.specs.Option.{option_and_then}
use Rattle.vr_disk.specs.DiskState.{Call, Disk, Sync, Face, Runs}
use Rattle.vr_disk.specs.Regions.{block_place}
use Rattle.vr_disk.specs.Sectors.{together, writes}
use Rattle.vr_disk.specs.declared.fault.Halt.{Halt}
use Rattle.vr_disk.specs.declared.fault.Halt.TheVariants as halt
use Rattle.vr_ckpt.specs.Blocks.{Content, named}
use Rattle.vr_ckpt.specs.Places.{grid_size}
use Rattle.vr_ckpt.specs.declared.name.Name.{Name}

-- what the eight sectors of a block read as together, None where one of them can't be read
unfoldable pub block_reading : Face → ℕ → Option (List ℕ)
block_reading f address = together (block_place address) 8 f

-- the block that reads under a name; None: it is faulty
unfoldable pub named_at : Face → Name → Option Content
named_at f name = if nat_lt name.address grid_size then option_and_then (named name) (block_reading f name.address) else None

-- the eight sectors of a block
unfoldable pub block_calls : ℕ → List ℕ → List Call
block_calls address bytes = writes (block_place address) 8 bytes

-- a block written and synced
unfoldable pub put_calls : ℕ → List ℕ → List Call
put_calls address bytes = block_calls address bytes ++ Sync ∷ []

-- these bytes are the whole block of this name, and its payload has this length
pub record IsWhole (name : Name) (bytes : List ℕ) (payload : ℕ) : Type 0 where
  pub content : Content
  pub named : named name bytes ≡ Some content
  pub size : length content.payload ≡ payload

-- what these calls leave, by the answer: want of memory comes before the first of them
abbrev pub Leaves : {T : Type 0} → List Call → Option Disk → Option Disk → Result T Halt → Type 0
Leaves cs old new (Ok x) = Runs cs old new true
Leaves cs old new (Err halt.DiskFault) = Runs cs old new false
Leaves cs old new (Err halt.NoMemory) = new ≡ old
