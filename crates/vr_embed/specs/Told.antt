-- What a shelf tells of itself.
use Rattle.std.specs.Prelude.{Some, IfSome}
use Rattle.vr_disk.specs.DiskState.{Disk, IsFace, name_beside}
use Rattle.vr_embed.specs.declared.shelf.Shelf.{Shelf}
use Rattle.vr_embed.specs.Seen.{face_of, fate_of, name_of}

abbrev pub told_by : Shelf → Disk
told_by s = record { face = face_of s.sectors; fate = fate_of s.power; beside = name_beside (name_of s.is_attached s.name.items) }

pub told_is_whole : (s : Shelf) → IfSome (Some (told_by s)) (λ d. IsFace d.face)
told_is_whole s = s.whole.face
