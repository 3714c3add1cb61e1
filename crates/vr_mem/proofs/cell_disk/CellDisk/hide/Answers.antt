use Rattle.std.specs.Prelude.{None}
use Rattle.vr_mem.specs.Seen.{face_of}
use Rattle.vr_mem.proofs.Meant.{meant_lied}
use Rattle.vr_mem.proofs.Plain.{content_high, none_content, same_told, sectors_lied}
use Rattle.vr_mem.proofs.cell_disk.CellDisk.hide.Goals as goal

pub invariant_of-self : goal.invariant_of-self
invariant_of-self c = record { sectors = sectors_lied c.args.self.now.texts c.args.self.now.face c.hide.new.self c.args.i None c.args.self.now.sectors c.requires c.hide.ensures.face c.hide.ensures.after none_content }

pub returns-clause-told : goal.returns-clause-told
returns-clause-told c = same_told _ _ _ _ (meant_lied c.args.self.now.texts (face_of c.args.self.now.face) (face_of c.hide.new.self) c.args.i None (content_high None none_content) c.hide.ensures.after)
