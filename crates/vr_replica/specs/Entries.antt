-- What reading an entry gives and leaves.
use Rattle.std.specs.Prelude.{ℕ, Option, Some, None}
use Rattle.vr_disk.specs.DiskState.{Face}
use Rattle.vr_header.specs.declared.part.Part.{Part}
use Rattle.vr_header.specs.declared.part.Part.TheVariants.{Here, Lost, Wanted, Unknown, Nothing}
use Rattle.vr_header.specs.Made.{Whole}
use Rattle.vr_rules.specs.Replica.{Replica}
use Rattle.vr_rules.specs.Sectors.{sectors_by}
use Rattle.vr_rules.specs.Words.{entry_of, lost}

-- the entry of an op of which this is known, on a file of a version
abbrev pub entry_by : ℕ → Part → Face → Option Whole
entry_by v (Here h) f = entry_of h (sectors_by v) f
entry_by v (Lost h) f = None
entry_by v (Wanted h) f = None
entry_by v Unknown f = None
entry_by v Nothing f = None

-- an entry that is stored and can't be read is lost
abbrev pub after_reading : Part → Option Whole → Replica → Replica
after_reading (Here h) None r = lost h r
after_reading (Here h) (Some e) r = r
after_reading (Lost h) found r = r
after_reading (Wanted h) found r = r
after_reading Unknown found r = r
after_reading Nothing found r = r
