use Rattle.std.proofs.Common.{◌≡◌, ◌∙◌, ◌&&◌, ap, sym, Some, None, cond}
use Rattle.std.specs.Prelude.{is_some}
use Rattle.vr_disk.specs.DiskState.{Disk}
use Rattle.vr_disk.proofs.Telling.{if_some, some_if}
use Rattle.vr_super.specs.Copies.{value_of}
use Rattle.vr_super.specs.Opens.{copy_reading, good_copy, if_good}
use Rattle.vr_super.proofs.Filling.{judged_not, judged_so, seen_by}
use Rattle.vr_super.proofs.reading.read_beside.Goals as goal
use Rattle.vr_super.proofs.reading.read_beside.Goals.{then-to, else-to}

pub returns-clause-value : goal.returns-clause-value
unfolding good_copy
returns-clause-value g c =
    let told = g.D.SectorDisk.told c.args.disk.now in
    let copy = c.args.copy in
    let whole = c.fill-to.result in
    let bytes = c.fill-to.new.to in
    let good = c.if-to.to in
    let judged : good ≡ (whole && is_some (value_of bytes)) = elim c.if-to.branch [
      | then-to w ↦ judged_so whole w.is_good_beside-to.result good bytes w.if-to.true w.is_good_beside-to.ensures.value w.to-is
      | else-to w ↦ judged_not whole good bytes w.if-to.false (w.to-is ∙ w.if-to.false)
    ] in
    if_some (λ (d : Disk). cond good (Some bytes) None ≡ if_good (copy_reading d.face copy)) told (λ d e.
    let read = some_if (λ (d : Disk). copy_reading d.face copy ≡ cond whole (Some bytes) None) told d c.fill-to.ensures.value e in
    seen_by whole good bytes judged ∙ ap if_good (sym read))
