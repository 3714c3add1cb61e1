use Rattle.std.proofs.Common.{◌≡◌, ◌∙◌, ap, cond, false, sym, true, None, Some}
use Rattle.vr_disk.specs.DiskState.{Disk, reads}
use Rattle.vr_disk.specs.Regions.{prepare_place}
use Rattle.vr_disk.proofs.Telling.{if_some, reads_to}
use Rattle.vr_rings.specs.Readings.{Begins, IsNothing}
use Rattle.vr_rings.proofs.Short.{first_none}
use Rattle.vr_rings.proofs.reading.read_first.Goals as goal

pub returns-clause-begins : goal.returns-clause-begins
returns-clause-begins g c =
    let t = g.D.SectorDisk.told c.args.disk.now in
    let s = c.read.new.to.bytes in
    if_some (λ (d : Disk). c.is_ok.result ≡ true → Begins c.args.version d.face c.args.slot s) t
    (λ d e ok. ap (reads d.face) (sym c.prepare_place.ensures.place) ∙ (reads_to c.prepare_place.result t _ d c.read.ensures.bytes e ∙ ap (λ b. cond b (Some s) None) (sym c.is_ok.ensures.value ∙ ok)))

pub returns-clause-nothing : goal.returns-clause-nothing
returns-clause-nothing g c =
    let t = g.D.SectorDisk.told c.args.disk.now in
    let s = c.read.new.to.bytes in
    if_some (λ (d : Disk). c.is_ok.result ≡ false → IsNothing c.args.version d.face c.args.slot) t
    (λ d e ok. let read : reads d.face (prepare_place c.args.version c.args.slot) ≡ None = ap (reads d.face) (sym c.prepare_place.ensures.place) ∙ (reads_to c.prepare_place.result t _ d c.read.ensures.bytes e ∙ ap (λ b. cond b (Some s) None) (sym c.is_ok.ensures.value ∙ ok)) in
    first_none c.args.version c.args.slot d.face read)
