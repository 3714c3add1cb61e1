use Rattle.vr_mem.specs.Seen.{face_of}
use Rattle.vr_mem.proofs.Meant.{kept_face}
use Rattle.vr_mem.proofs.Plain.{kept_sectors, same_told}
use Rattle.vr_mem.proofs.cell_disk.CellDisk.keep.Goals as goal

pub invariant_of-self : goal.invariant_of-self
invariant_of-self c = record { sectors = kept_sectors c.args.self.now.texts c.keep.new.self c.args.number c.args.self.now.face c.keep.ensures.others c.requires.waiting c.requires.free c.args.self.now.sectors }

pub returns-clause-told : goal.returns-clause-told
returns-clause-told c = same_told _ _ _ _ (kept_face c.args.self.now.texts c.keep.new.self c.args.number (face_of c.args.self.now.face) c.keep.ensures.others c.requires.waiting c.requires.free c.args.self.now.sectors.plain)
