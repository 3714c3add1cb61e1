use Rattle.std.proofs.Common.{◌∙◌, ap, sym}
use Rattle.std.specs.Prelude.{replicate}
use Rattle.vr_disk.specs.Sectors.{has}
use Rattle.vr_mem.specs.Seen.{face_of}
use Rattle.vr_mem.proofs.Plain.{told_plain}
use Rattle.vr_mem.proofs.cell_disk.CellDiskSectorDisk.reads_zeros.Goals as goal

pub returns-clause-value : goal.returns-clause-value
returns-clause-value c =
    c.reads_zeros.ensures ∙ ap (has (replicate 512 0)) (told_plain c.args.self.now.texts (face_of c.args.self.now.face) c.args.i c.args.self.now.sectors.plain (sym c.if-begins_copy.ensures))
