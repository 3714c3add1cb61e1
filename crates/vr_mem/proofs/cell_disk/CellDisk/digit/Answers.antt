use Rattle.std.proofs.Common.{◌∙◌, sym}
use Rattle.vr_mem.specs.Seen.{face_of}
use Rattle.vr_mem.proofs.Meant.{meant_digit}
use Rattle.vr_mem.proofs.cell_disk.CellDisk.digit.Goals as goal

pub returns : goal.returns
returns c = c.digit.ensures ∙ sym (meant_digit c.args.self.now.texts (face_of c.args.self.now.face) c.args.code c.args.i)
