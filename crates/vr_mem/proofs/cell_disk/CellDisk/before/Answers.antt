use Rattle.vr_mem.specs.Seen.{bytes_of, face_of}
use Rattle.vr_mem.proofs.Plain.{told_before}
use Rattle.vr_mem.proofs.cell_disk.CellDisk.before.Goals as goal

pub returns : goal.returns
returns c = told_before c.args.self.now.texts (face_of c.args.self.now.face) c.args.i c.meant.result.bytes (bytes_of c.before-2.result.now) c.meant.ensures c.before-2.ensures
