use Rattle.std.proofs.Common.{◌∙◌, ap}
use Rattle.vr_disk.specs.DiskState.{reads}
use Rattle.vr_mem.specs.Cells.{disk_of}
use Rattle.vr_lie.proofs.Early.{begins_has}
use Rattle.vr_lie.proofs.reading.begins_alike.Goals as goal

pub returns-in-Some : goal.returns-in-Some
returns-in-Some c =
    let f = (disk_of c.args.disk.now).face in
    begins_has c.args.version f c.args.slot c.in-Some.first.now.bytes c.has_header.result (c.in-Some.ensures ∙ ap (reads f) c.prepare_place.ensures.place) c.has_header.ensures
