-- What a disk whose sectors may read otherwise tells.
use Rattle.std.specs.Prelude.{Some, IfSome}
use Rattle.vr_disk.specs.DiskState.{Disk, IsFace, name_beside}
use Rattle.vr_mem.specs.declared.cell_disk.CellDisk.{CellDisk}
use Rattle.vr_mem.specs.Owed.{meant_face}
use Rattle.vr_mem.specs.Calls.{fate_of, name_given}
use Rattle.vr_mem.specs.Seen.{face_of}

-- its sectors, with the names that are owed; what becomes of its calls; and the name by which it was attached, beside which it keeps nothing
abbrev pub disk_of : CellDisk → Disk
disk_of m = record { face = meant_face m.texts (face_of m.face); fate = fate_of m.fate; beside = name_beside (name_given m.name) }

pub told_is_whole : (m : CellDisk) → IfSome (Some (disk_of m)) (λ d. IsFace d.face)
told_is_whole m = m.sectors.whole
