-- Ops whose entries aren't stored, or can't be read.
use Rattle.std.specs.Prelude.{List, Option, None, Some, find}
use Rattle.std.specs.Option.{option_and_then}
use Rattle.vr_header.specs.declared.header.Header.{Header}
use Rattle.vr_header.specs.declared.part.Part.{Part}
use Rattle.vr_header.specs.declared.part.Part.TheVariants.{Here, Lost, Wanted, Unknown, Nothing}
use Rattle.vr_header.specs.Parts.{header_of}
use Rattle.vr_rules.specs.Replica.{is_absent}

abbrev pub absent_header : Part → Option Header
absent_header (Here h) = None
absent_header (Lost h) = Some h
absent_header (Wanted h) = Some h
absent_header Unknown = None
absent_header Nothing = None

-- the header of the first of them
abbrev pub first_absent : List Part → Option Header
first_absent ps = option_and_then header_of (find is_absent ps)
