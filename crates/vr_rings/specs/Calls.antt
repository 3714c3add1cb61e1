-- The calls that write a slot.
use Rattle.std.specs.Prelude.{ℕ, List, [], ◌∷◌, ◌++◌}
use Rattle.vr_disk.specs.DiskState.{Call, Write, Sync}
use Rattle.vr_disk.specs.Regions.{header_place, prepare_place, prepare_sectors}
use Rattle.vr_disk.specs.Sectors.{writes}
use Rattle.vr_header.specs.declared.header.Header.{Header}
use Rattle.vr_header.specs.Made.{Whole}
use Rattle.vr_rings.specs.Slots.{prepare_bytes, sector_of, slot_of}

-- the header sector written and synced
unfoldable pub header_calls : Header → List Call
header_calls h = Write (header_place (slot_of h)) (sector_of h) ∷ Sync ∷ []

-- the sectors of the prepare written, and synced
unfoldable pub prepare_calls : ℕ → Whole → List Call
prepare_calls version e = writes (prepare_place version (slot_of e.header)) (prepare_sectors version) (prepare_bytes e) ++ Sync ∷ []

-- an entry in the place of another one: first the prepare, then the header
abbrev pub new_calls : ℕ → Whole → List Call
new_calls version e = prepare_calls version e ++ header_calls e.header

-- an entry that the slot may hold already: first the header, then the prepare
abbrev pub again_calls : ℕ → Whole → List Call
again_calls version e = header_calls e.header ++ prepare_calls version e
