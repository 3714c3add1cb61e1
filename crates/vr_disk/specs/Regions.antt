-- The regions of a data file, by the numbers of their first sectors.
use Rattle.std.specs.Prelude.{ℕ, ◌+◌, ◌-◌, ◌*◌, nat_lt, if◌then◌else◌}
use Rattle.vr_base.specs.Versions.{by_version}

-- all of them, whatever the file's version
abbrev pub sectors : ℕ
sectors = 3984

-- sector k of a copy of the superblock: four copies of 20 sectors
abbrev pub copy_place : ℕ → ℕ → ℕ
copy_place copy k = 20 * copy + k

-- the sector of a slot's header: 64 slots
abbrev pub header_place : ℕ → ℕ
header_place slot = 80 + slot

-- how many sectors a slot's prepare has, by the file's version
abbrev pub prepare_sectors : ℕ → ℕ
prepare_sectors v = by_version v 4 8

-- and the first of them
abbrev pub prepare_place : ℕ → ℕ → ℕ
prepare_place v slot = by_version v (144 + 4 * slot) (1424 + 8 * slot)

-- the first of the eight sectors of a block: 384 blocks
abbrev pub block_place : ℕ → ℕ
block_place address = if nat_lt address 128 then 400 + 8 * address else 1936 + 8 * (address - 128)
