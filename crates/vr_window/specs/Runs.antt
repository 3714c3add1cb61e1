-- The known headers that reach a place of a list without a hole.
use Rattle.std.specs.Prelude.{ℕ, List, reverse, filter_map, take_while, take}
use Rattle.vr_header.specs.declared.header.Header.{Header}
use Rattle.vr_header.specs.declared.part.Part.{Part}
use Rattle.vr_header.specs.Parts.{has_header, header_of}

unfoldable pub run_of : ℕ → List Part → List Header
run_of n ps = reverse (filter_map header_of (take_while has_header (reverse (take n ps))))
