-- Calls that are made one after the other.
use Rattle.std.specs.Prelude.{ℕ, ◌+◌, ◌*◌, ◌-◌, List, map, Option, Bool}
use Rattle.std.specs.List.{range_with_len}
use Rattle.vr_disk.specs.DiskState.{Call, Write, Disk, Runs}
use Rattle.vr_disk.specs.declared.regions.TheConstants.{SLOTS}
use Rattle.vr_disk.specs.Regions.{header_place, prepare_place, prepare_sectors}
use Rattle.vr_rings.specs.Slots.{sector_of}
use Rattle.vr_rules.specs.Formatting.{reserved_header, zero_sector}

-- the sector after the prepares of a file of this version
abbrev pub prepares_end : ℕ → ℕ
prepares_end v = prepare_place v 0 + SLOTS * prepare_sectors v

abbrev pub zero_call : ℕ → Call
zero_call i = Write i zero_sector

abbrev pub reserved_call : ℕ → ℕ → ℕ → Call
reserved_call v cluster slot = Write (header_place slot) (sector_of (reserved_header v cluster slot))

-- those from a number on, up to another one
unfoldable pub calls_from : (ℕ → Call) → ℕ → ℕ → List Call
calls_from c i end = map c (range_with_len i (end - i))

-- in the middle of calls: what the rest does, the whole does
pub record Making (cs rest : List Call) (d d' : Option Disk) : Type 0 where
  pub goes : (d'' : Option Disk) (ok : Bool) → Runs rest d' d'' ok → Runs cs d d'' ok
