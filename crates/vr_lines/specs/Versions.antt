-- What a version allows lines to speak of.
use Rattle.std.specs.Prelude.{ℕ}
use Rattle.vr_base.specs.Versions.{by_version}
use Rattle.vr_disk.specs.Regions.{prepare_place, sectors}

-- lines of a version speak of so many sectors of a disk, from the first on: those of version 1 of the sectors in front of the prepares of version 2
abbrev pub line_sectors : ℕ → ℕ
line_sectors version = by_version version (prepare_place 2 0) sectors
