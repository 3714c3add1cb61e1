use Rattle.vr_mem.specs.Seen.{face_of}
use Rattle.vr_mem.proofs.Meant.{meant_settle}
use Rattle.vr_mem.proofs.Plain.{same_told, sectors_settle}
use Rattle.vr_mem.proofs.cell_disk.CellDisk.settle.Goals as goal

pub invariant_of-self : goal.invariant_of-self
invariant_of-self c = record { sectors = sectors_settle c.args.self.now.texts c.args.self.now.face c.settle.new.self c.args.code c.args.self.now.sectors c.settle.ensures.face c.settle.ensures.after }

pub returns-clause-told : goal.returns-clause-told
returns-clause-told c = same_told _ _ _ _ (meant_settle c.args.self.now.texts (face_of c.args.self.now.face) (face_of c.settle.new.self) c.args.code c.settle.ensures.after)
