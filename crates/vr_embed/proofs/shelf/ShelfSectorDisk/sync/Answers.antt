use Rattle.vr_disk.proofs.Running.{sync_cuts}
use Rattle.vr_embed.specs.Seen.{face_of, fate_of, name_of}
use Rattle.vr_embed.proofs.shelf.ShelfSectorDisk.sync.Goals as goal

pub returns-in-Cuts-clause-told : goal.returns-in-Cuts-clause-told
returns-in-Cuts-clause-told c =
    rw (c.fail-in-Cuts.ensures.same, c.fail-in-Cuts.ensures.failed)
    (sync_cuts (face_of c.args.self.now.sectors) (face_of c.lose.new.self) (fate_of c.args.self.now.power) (fate_of c.judge.new.self) (name_of c.args.self.now.is_attached c.args.self.now.name.items)
    0 c.in-Cuts.ensures.verdict c.in-Cuts.ensures.next c.lose.ensures.after)
