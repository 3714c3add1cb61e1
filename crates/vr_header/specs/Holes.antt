-- Parts with no known header.
use Rattle.std.specs.Prelude.{Bool, true, false}
use Rattle.vr_header.specs.declared.part.Part.{Part}
use Rattle.vr_header.specs.declared.part.Part.TheVariants.{Here, Lost, Wanted, Unknown, Nothing}

-- no header is known
abbrev pub is_hole : Part → Bool
is_hole (Here header) = false
is_hole (Lost header) = false
is_hole (Wanted header) = false
is_hole Unknown = true
is_hole Nothing = true
