use Rattle.vr_disk.specs.Fronts.{front}
use Rattle.vr_mem.specs.Cells.{disk_of}
use Rattle.vr_mem.specs.Owed.{meant_face}
use Rattle.vr_mem.specs.Calls.{fate_of, name_given}
use Rattle.vr_mem.specs.Seen.{face_of}
use Rattle.vr_mem.proofs.Cutting.{write_cut}
use Rattle.vr_mem.proofs.cell_disk.CellDiskSectorDisk.write_front.Goals as goal

pub returns-in-Cuts-clause-told : goal.returns-in-Cuts-clause-told
returns-in-Cuts-clause-told c =
    let was = c.args.self.now in
    write_cut (meant_face was.texts (face_of was.face)) (fate_of was.fate) (name_given was.name) (disk_of c.judge.new.self) (disk_of c.put_named-in-Cuts.new.self) (disk_of c.settle.new.self) (disk_of c.fault-in-Cuts.new.self) c.args.i (front c.args.text.now) c.in-Cuts.code _
    c.in-Cuts.ensures.verdict c.in-Cuts.ensures.told c.put_named-in-Cuts.ensures.told c.settle.ensures.told c.fault-in-Cuts.ensures.same c.fault-in-Cuts.ensures.failed
