use Rattle.std.proofs.Common.{◌≡◌, ◌∙◌, ap, arith, sym, Some}
use Rattle.vr_disk.specs.DiskState.{Cell, reads}
use Rattle.vr_mem.specs.declared.bytes.Mark.{Mark}
use Rattle.vr_mem.specs.Seen.{face_of, marked}
use Rattle.vr_mem.proofs.Marks.{length_marked}
use Rattle.vr_mem.proofs.Zeros.{blank_has, some_has}
use Rattle.vr_mem.proofs.face.MemFace.reads_zeros.Goals as goal

pub returns-then-is_noted : goal.returns-then-is_noted
returns-then-is_noted c = blank_has _ (ap (λ (c : Cell). c.reads) c.room-room.ensures.cell ∙ c.is_noted.ensures c.if-is_noted.true)

pub returns-in-Some : goal.returns-in-Some
returns-in-Some c =
    let f = face_of c.args.self.now in
    let sector = c.in-Some.sector.now.bytes in
    let b = marked c.read_mark.result sector in
    let read : Some b ≡ reads f c.args.index = ap (λ (m : Mark). Some (marked m sector)) c.read_mark.ensures ∙ (rw c.in-Some.is at c.reading.ensures ∙ sym (ap (λ (c : Cell). c.reads) c.room-room.ensures.cell)) in
    c.are_zeros.ensures ∙ some_has (reads f c.args.index) b read (length_marked c.read_mark.result sector ∙ omega arith)
