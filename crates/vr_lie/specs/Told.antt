-- What a disk that lies tells.
use Rattle.std.specs.Prelude.{ℕ, List, Option, Some, IfSome}
use Rattle.vr_disk.specs.DiskState.{Disk, IsFace}
use Rattle.vr_mem.specs.Cells.{disk_of}
use Rattle.vr_lie.specs.declared.disk.LieDisk.{LieDisk}
use Rattle.vr_lie.specs.Table.{table_of}

abbrev pub told_by : LieDisk → Disk
told_by m = disk_of m.disk

-- what its slots hold
abbrev pub held_by : LieDisk → List (Option (List ℕ))
held_by m = table_of m.held.items

-- the version of the file on it, by which its slots have their sectors
abbrev pub version_by : LieDisk → ℕ
version_by m = m.version

pub told_is_whole : (m : LieDisk) → IfSome (Some (told_by m)) (λ d. IsFace d.face)
told_is_whole m = m.disk.sectors.whole
