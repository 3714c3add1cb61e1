use Rattle.std.specs.Prelude.{Some}
use Rattle.vr_mem.specs.Seen.{face_of}
use Rattle.vr_mem.proofs.Meant.{meant_lied}
use Rattle.vr_mem.proofs.Plain.{content_high, same_told, sectors_lied, some_content}
use Rattle.vr_mem.proofs.cell_disk.CellDisk.show.Goals as goal

pub invariant_of-self : goal.invariant_of-self
invariant_of-self c =
    let bytes = c.args.sector.now.bytes in
    record { sectors = sectors_lied c.args.self.now.texts c.args.self.now.face c.show.new.self c.args.i (Some bytes) c.args.self.now.sectors c.requires c.show.ensures.face c.show.ensures.after (some_content bytes c.show.ensures.content) }

pub returns-clause-told : goal.returns-clause-told
returns-clause-told c =
    let bytes = c.args.sector.now.bytes in
    same_told _ _ _ _ (meant_lied c.args.self.now.texts (face_of c.args.self.now.face) (face_of c.show.new.self) c.args.i (Some bytes) (content_high (Some bytes) (some_content bytes c.show.ensures.content)) c.show.ensures.after)
