use Rattle.std.proofs.Common.{◌∙◌, ap, sym, Some}
use Rattle.vr_mem.specs.Seen.{face_of, read_mark_at}
use Rattle.vr_mem.proofs.Plain.{told_none, told_some}
use Rattle.vr_mem.proofs.cell_disk.CellDiskSectorDisk.read.Goals as goal

pub returns-in-Some-clause-bytes : goal.returns-in-Some-clause-bytes
returns-in-Some-clause-bytes c =
    sym (told_some c.args.self.now.texts (face_of c.args.self.now.face) c.args.i c.read_mark.result (read_mark_at c.args.self.now.face c.args.i) c.in-Some.sector.now.bytes c.read_mark.ensures c.in-Some.ensures)
    ∙ ap Some (sym c.copy.ensures)

pub returns-clause-bytes : goal.returns-clause-bytes
returns-clause-bytes c = sym (told_none c.args.self.now.texts (face_of c.args.self.now.face) c.args.i c.in_default.ensures)
