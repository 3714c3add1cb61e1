-- The header that a Part knows.
use Rattle.std.specs.Prelude.{Bool, Option, None, Some, is_some}
use Rattle.vr_header.specs.declared.header.Header.{Header}
use Rattle.vr_header.specs.declared.part.Part.{Part}
use Rattle.vr_header.specs.declared.part.Part.TheVariants.{Here, Lost, Wanted, Unknown, Nothing}

abbrev pub header_of : Part → Option Header
header_of (Here h) = Some h
header_of (Lost h) = Some h
header_of (Wanted h) = Some h
header_of Unknown = None
header_of Nothing = None

abbrev pub has_header : Part → Bool
has_header p = is_some (header_of p)
