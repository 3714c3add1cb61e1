use Rattle.std.proofs.Common.{◌∙◌, ap, sym}
use Rattle.vr_mem.specs.declared.bytes.Mark.{Mark}
use Rattle.vr_mem.specs.Seen.{marked}
use Rattle.vr_mem.proofs.Shelves.{damaged_truth}
use Rattle.vr_mem.proofs.room.MemRoom.damage.Goals as goal

pub returns-clause-truth : goal.returns-clause-truth
returns-clause-truth c =
    let raw = c.raw.result.now.bytes in
    damaged_truth c.args.self.now c.hold.new.self c.mark-mark.result raw c.damage-damaged.result.bytes c.hold.ensures.holds c.damage-damaged.ensures.damaged c.damage-damaged.ensures.content.each
    (sym c.truth-truth.ensures.bytes ∙ (c.raw.ensures ∙ ap (λ (m : Mark). marked m raw) (sym c.mark-mark.ensures)))
