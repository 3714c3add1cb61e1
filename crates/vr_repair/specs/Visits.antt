-- What a visit of a slot finds.
use Rattle.std.specs.Prelude.{ℕ, Bool, false, ◌%◌, if◌then◌else◌, Option, None, Some}
use Rattle.vr_disk.specs.DiskState.{Face}
use Rattle.vr_header.specs.declared.header.Header.{Header}
use Rattle.vr_header.specs.declared.part.Part.{Part}
use Rattle.vr_header.specs.declared.part.Part.TheVariants.{Here}
use Rattle.vr_header.specs.Made.{Whole}
use Rattle.vr_header.specs.Same.{same_header}
use Rattle.vr_repair.specs.declared.found.Visit.{Visit}
use Rattle.vr_repair.specs.declared.found.Visit.TheVariants as visit
use Rattle.vr_rings.specs.Slots.{header_in}
use Rattle.vr_rules.specs.Replica.{Replica}
use Rattle.vr_rules.specs.Sectors.{sectors_by}
use Rattle.vr_rules.specs.Steps.{Effect, Mend}
use Rattle.vr_rules.specs.Words.{entry_of}

-- as this header
abbrev pub reads_as : Header → Option Header → Bool
reads_as h None = false
reads_as h (Some f) = same_header f h

-- of an entry that reads
abbrev pub good_or_mended : Header → Option Header → Visit
good_or_mended h f = if reads_as h f then visit.Good else visit.Mended

-- of an entry that was stored, which reads or doesn't
abbrev pub stored_as : Header → Option Whole → Option Header → Visit
stored_as h None f = visit.Lost
stored_as h (Some e) f = good_or_mended h f

-- at the slot of an op of which this is known, on what the disk reads as, as a file of a version
abbrev pub found_at : ℕ → Part → Face → Visit
found_at v (Here h) f = stored_as h (entry_of h (sectors_by v) f) (header_in f (h.op % 64))
found_at v _ f = visit.Nothing

-- the superblock is mended
unfoldable pub mends : Replica → Effect
mends r = Mend r.saved
