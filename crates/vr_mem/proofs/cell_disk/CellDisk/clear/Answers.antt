use Rattle.vr_mem.specs.Seen.{face_of}
use Rattle.vr_mem.proofs.Meant.{meant_sync}
use Rattle.vr_mem.proofs.Plain.{same_told, sectors_sync}
use Rattle.vr_mem.proofs.cell_disk.CellDisk.clear.Goals as goal

pub invariant_of-self : goal.invariant_of-self
invariant_of-self c = record { sectors = sectors_sync c.args.self.now.texts c.args.self.now.face c.sync.new.self c.args.self.now.sectors c.sync.ensures.face c.sync.ensures.after }

pub returns-clause-told : goal.returns-clause-told
returns-clause-told c = same_told _ _ _ _ (meant_sync c.args.self.now.texts (face_of c.args.self.now.face) (face_of c.sync.new.self) c.sync.ensures.after)
