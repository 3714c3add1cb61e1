-- Two disks that read the same but where neither verifies.
use Rattle.std.specs.Prelude.{ℕ, ◌+◌, ◌*◌, ◌≤◌, ◌<◌, ◌≡◌, ◌⊎◌, Bool, false, List, is_some}
use Rattle.std.specs.Option.{option_map_or}
use Rattle.vr_disk.specs.DiskState.{Face, reads}
use Rattle.vr_disk.specs.Regions.{block_place, header_place, prepare_place, prepare_sectors}
use Rattle.vr_disk.specs.Sectors.{together}
use Rattle.vr_super.specs.Copies.{value_of}
use Rattle.vr_rings.specs.Moving.{is_movable}
use Rattle.vr_rings.specs.Slots.{header_of, padded}
use Rattle.vr_ckpt.specs.Blocks.{content_of}
use Rattle.vr_ckpt.specs.Places.{grid_size}

-- what is read as a whole: a copy of the superblock, the header sector or the prepare of a slot, a block
pub data Region : Type 0 where
  Copy : (copy : ℕ) → Region
  Header : (slot : ℕ) → Region
  Prepare : (slot : ℕ) → Region
  Block : (address : ℕ) → Region

-- those of a data file
abbrev pub IsRegion : Region → Type 0
IsRegion (Copy c) = c < 4
IsRegion (Header s) = s < 64
IsRegion (Prepare s) = s < 64
IsRegion (Block a) = a < grid_size

-- in a file of a version the first of its sectors, and how many it has
abbrev pub place : ℕ → Region → ℕ
place v (Copy c) = 20 * c
place v (Header s) = header_place s
place v (Prepare s) = prepare_place v s
place v (Block a) = block_place a

abbrev pub count : ℕ → Region → ℕ
count v (Copy c) = 20
count v (Header s) = 1
count v (Prepare s) = prepare_sectors v
count v (Block a) = 8

-- a sector is one of its own
abbrev pub IsIn : ℕ → Region → ℕ → Type 0
IsIn v r k = (place v r ≤ k) × (k < place v r + count v r)

-- these bytes are a good copy, a valid header, a whole entry or zeros, or a whole block
abbrev pub is_good : ℕ → Region → List ℕ → Bool
is_good v (Copy c) bytes = is_some (value_of bytes)
is_good v (Header s) bytes = is_some (header_of bytes)
is_good v (Prepare s) bytes = is_movable (padded v bytes)
is_good v (Block a) bytes = is_some (content_of bytes)

-- its sectors can all be read, and what they read as verifies
abbrev pub verifies : ℕ → Face → Region → Bool
verifies v f r = option_map_or (is_good v r) (together (place v r) (count v r) f) false

-- each of its sectors reads the same on both disks
abbrev pub ReadsSame : ℕ → Face → Face → Region → Type 0
ReadsSame v f g r = (k : ℕ) → IsIn v r k → reads g k ≡ reads f k

-- it verifies on neither, whatever its sectors read as there
pub record VerifiesOnNeither (v : ℕ) (f g : Face) (r : Region) : Type 0 where
  pub first : verifies v f r ≡ false
  pub second : verifies v g r ≡ false

-- So it is of each region of a file of a version.
pub record ReadAlike (v : ℕ) (f g : Face) : Type 0 where
  pub each : (r : Region) → IsRegion r → ReadsSame v f g r ⊎ VerifiesOnNeither v f g r
