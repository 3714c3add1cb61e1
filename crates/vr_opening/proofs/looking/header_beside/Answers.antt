use Rattle.std.proofs.Common.{◌≡◌, ◌∙◌, ap, take}
use Rattle.std.specs.Prelude.{IfSome}
use Rattle.vr_disk.specs.Sectors.{has}
use Rattle.vr_rings.specs.Held.{header_sector}
use Rattle.vr_rings.specs.Slots.{header_reading}
use Rattle.vr_opening.proofs.Slots.{own_header}
use Rattle.vr_opening.proofs.looking.header_beside.Goals as goal

pub returns-then-reads_as-clause-value : goal.returns-then-reads_as-clause-value
returns-then-reads_as-clause-value g c =
    let bytes : c.header_sector.result.bytes ≡ header_sector (take 4096 c.args.buffer.now) = c.header_sector.ensures ∙ ap header_sector (c.split_at.ensures.front ∙ ap (take 4096) c.as_slice.ensures.bytes) in
    let seen : IfSome (g.D.SectorDisk.told c.args.disk.now) (λ d. c.reads_as.result ≡ has (header_sector (take 4096 c.args.buffer.now)) (header_reading d.face c.args.slot)) = rw (← bytes, ← c.header_place.ensures.place) c.reads_as.ensures.value in
    own_header c.args.entry.now c.args.slot c.args.buffer.now (g.D.SectorDisk.told c.args.disk.now) c.reads_as.result c.requires.entry seen c.if-reads_as.true
