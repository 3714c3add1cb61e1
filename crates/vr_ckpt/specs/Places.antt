-- Where the blocks of checkpoints stand. Each payload of a text has two places in the grid: a lower and an upper one.
use Rattle.std.specs.Prelude.{ℕ, ◌+◌, ◌-◌, ◌*◌, ◌/◌, ◌%◌, ◌^◌, ◌≤◌, ◌<◌, ◌≡◌, ◌⊎◌, Bool, ◌||◌, ◌==◌, nat_lt, if◌then◌else◌, []}
use Rattle.vr_ckpt.specs.declared.places.Places.{Places}
use Rattle.vr_ckpt.specs.declared.table.PayloadTable.{PayloadTable}

-- the table of no checkpoint
abbrev pub empty : PayloadTable
empty = record { sessions = []; keys = [] }

-- the number of a checkpoint: its op
pub record IsCheckpoint (op : ℕ) : Type 0 where
  pub whole : op % 32 ≡ 0
  pub least : 32 ≤ op
  pub most : op ≤ 2 ^ 62

-- the addresses of the grid are those below
abbrev pub grid_size : ℕ
grid_size = 384

-- the root's place
abbrev pub root_place : ℕ → ℕ
root_place op = 64 * ((op / 32) % 2)

-- ---- by the lower place

-- a lower place is below 64, or from 128 to 255
abbrev pub IsLower : ℕ → Type 0
IsLower low = (low < 64) ⊎ ((128 ≤ low) × (low < 256))

-- the upper one
abbrev pub twin : ℕ → ℕ
twin low = if nat_lt low 128 then low + 64 else low + 128

-- one of the two
abbrev pub is_place : ℕ → ℕ → Bool
is_place low address = (address == low) || (address == twin low)

-- where a payload goes that the checkpoint before had elsewhere
abbrev pub other_place : ℕ → ℕ → ℕ
other_place low address = if address == low then twin low else low

-- where a payload goes that the checkpoint before didn't have
abbrev pub first_place : ℕ → ℕ → ℕ
first_place op low = if (op / 32) % 2 == 0 then low else twin low

-- ---- of the payloads of a text

-- the lower place of the i-th payload
unfoldable pub place_of : Places → ℕ → ℕ
place_of p i = if nat_lt i p.few then p.low + i else p.later + (i - p.few)

-- so many payloads have lower places
pub record HasRoom (p : Places) (n : ℕ) : Type 0 where
  pub low : p.low + p.few ≤ 64
  pub later : 128 ≤ p.later
  pub most : p.later + n ≤ 256 + p.few

abbrev pub sessions_places : Places
sessions_places = record { low = 1; few = 9; later = 128 }

abbrev pub keys_places : Places
keys_places = record { low = 10; few = 36; later = 168 }
