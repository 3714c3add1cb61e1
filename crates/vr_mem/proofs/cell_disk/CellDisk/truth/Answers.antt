use Rattle.vr_mem.specs.Seen.{bytes_of, face_of}
use Rattle.vr_mem.proofs.Plain.{told_truth}
use Rattle.vr_mem.proofs.cell_disk.CellDisk.truth.Goals as goal

pub returns : goal.returns
returns c = told_truth c.args.self.now.texts (face_of c.args.self.now.face) c.args.i c.meant.result.bytes (bytes_of c.truth.result.now) c.meant.ensures c.truth.ensures
