use Rattle.std.proofs.Common.{◌∙◌, ap}
use Rattle.vr_disk.specs.Sectors.{has}
use Rattle.vr_mem.specs.Seen.{face_of, read_mark_at}
use Rattle.vr_mem.proofs.Plain.{told_none, told_some}
use Rattle.vr_mem.proofs.cell_disk.CellDiskSectorDisk.reads_as.Goals as goal

pub returns-in-Some-clause-value : goal.returns-in-Some-clause-value
returns-in-Some-clause-value c =
    c.is.ensures ∙ ap (has c.args.bytes.now) (told_some c.args.self.now.texts (face_of c.args.self.now.face) c.args.i c.read_mark.result (read_mark_at c.args.self.now.face c.args.i) c.in-Some.sector.now.bytes c.read_mark.ensures c.in-Some.ensures)

pub returns-in-None-clause-value : goal.returns-in-None-clause-value
returns-in-None-clause-value c = ap (has c.args.bytes.now) (told_none c.args.self.now.texts (face_of c.args.self.now.face) c.args.i c.in-None.ensures)
