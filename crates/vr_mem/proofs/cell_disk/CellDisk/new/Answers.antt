use Rattle.vr_mem.specs.Seen.{face_of}
use Rattle.vr_mem.proofs.Meant.{meant_zeros}
use Rattle.vr_mem.proofs.Plain.{made_sectors}
use Rattle.vr_mem.proofs.cell_disk.CellDisk.new.Goals as goal

pub invariant_of-result : goal.invariant_of-result
invariant_of-result c = record { sectors = made_sectors c.in_ok-new-2.field-0 c.in_ok-new.field-0 c.in_ok-new.ensures.whole c.in_ok-new.ensures.face }

pub returns-clause-face : goal.returns-clause-face
returns-clause-face c = meant_zeros c.in_ok-new-2.field-0 (face_of c.in_ok-new.field-0) c.in_ok-new.ensures.face
