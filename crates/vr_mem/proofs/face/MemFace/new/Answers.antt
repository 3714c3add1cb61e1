use Rattle.vr_mem.proofs.Made.{whole_made}
use Rattle.vr_mem.proofs.Places.{face_made}
use Rattle.vr_mem.proofs.face.MemFace.new.Goals as goal

pub returns-clause-face : goal.returns-clause-face
returns-clause-face c = face_made c.in_ok-new.field-0 c.in_ok-new-2.field-0 c.in_ok-new.ensures.zeros c.in_ok-new-2.ensures.none

pub returns-clause-whole : goal.returns-clause-whole
returns-clause-whole c = whole_made _ c.in_ok-new.ensures.whole c.in_ok-new.ensures.zeros c.in_ok-new-2.ensures.none c.in_ok-new-2.ensures.waits
