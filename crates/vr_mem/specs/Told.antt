-- What a disk in memory tells.
use Rattle.std.specs.Prelude.{◌≡◌, Some, IfSome}
use Rattle.std.specs.List.{All}
use Rattle.vr_disk.specs.DiskState.{Cell, Disk, IsFace}
use Rattle.vr_mem.specs.declared.disk.MemDisk.{MemDisk}
use Rattle.vr_mem.specs.Cells.{disk_of}

abbrev pub told_by : MemDisk → Disk
told_by m = disk_of m.disk

pub told_is_whole : (m : MemDisk) → IfSome (Some (told_by m)) (λ d. IsFace d.face)
told_is_whole m = m.disk.sectors.whole

-- each sector reads as what it should hold
abbrev pub Honest : Type 0
Honest = (m : MemDisk) → All (λ (c : Cell). c.reads ≡ Some c.truth) (told_by m).face.cells
