use Rattle.vr_mem.specs.Seen.{face_of}
use Rattle.vr_mem.proofs.Meant.{meant_plain, meant_write}
use Rattle.vr_mem.proofs.Plain.{same_told, sectors_write}
use Rattle.vr_mem.proofs.cell_disk.CellDisk.put.Goals as goal

pub invariant_of-self : goal.invariant_of-self
invariant_of-self c =
    let bytes = c.args.from.now.bytes in
    let k = c.write.ensures.content in
    record { sectors = sectors_write c.args.self.now.texts c.args.self.now.face c.write.new.self c.args.i bytes bytes c.args.self.now.sectors c.requires c.write.ensures.face c.write.ensures.after (meant_plain c.args.self.now.texts bytes (k.each 0)) k (λ _. k.each 0) }

pub returns-clause-told : goal.returns-clause-told
returns-clause-told c =
    let bytes = c.args.from.now.bytes in
    same_told _ _ _ _ (meant_write c.args.self.now.texts (face_of c.args.self.now.face) (face_of c.write.new.self) c.args.i bytes bytes (meant_plain c.args.self.now.texts bytes (c.write.ensures.content.each 0)) c.write.ensures.after)
