use Rattle.vr_mem.specs.Seen.{face_of, read_mark_at}
use Rattle.vr_mem.proofs.Plain.{plain_reading}
use Rattle.vr_mem.proofs.cell_disk.CellDisk.reading.Goals as goal

pub returns : goal.returns
returns c = plain_reading c.args.self.now.texts (face_of c.args.self.now.face) c.args.i (read_mark_at c.args.self.now.face c.args.i) (λ s. s.now.bytes) c.reading.result c.reading.ensures c.args.self.now.sectors.plain c.requires.own
