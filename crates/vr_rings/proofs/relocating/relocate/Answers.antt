use Rattle.std.proofs.Common.{◌≡◌, ◌∙◌, ap}
use Rattle.std.specs.Prelude.{replicate}
use Rattle.vr_rings.proofs.Relocated.{lost_moved}
use Rattle.vr_rings.proofs.relocating.relocate.Goals as goal

pub returns-then-not-read_movable-clause-value : goal.returns-then-not-read_movable-clause-value
returns-then-not-read_movable-clause-value g c =
    let filled : c.fill.new.self ≡ replicate 4096 255 = c.fill.ensures.after (λ y e. e) ∙ ap (λ n. replicate n 255) c.if-not-read_movable.ensures.size in
    lost_moved (g.D.SectorDisk.told c.args.disk.now) c.args.slot c.fill.new.self c.if-not-read_movable.ensures.value filled
