-- put_in
use Rattle.std.proofs.Common.{arith, ap, sym, ◌∙◌, ◌≡◌}
use Rattle.vr_disk.specs.DiskState.{Disk, Write, after}
use Rattle.vr_mem.specs.Cells.{disk_of}
use Rattle.vr_lie.proofs.Tables.{at_table, puts, set_table}
use Rattle.vr_lie.proofs.table.put_in.Goals as goal

pub returns-clause-held : goal.returns-clause-held
returns-clause-held c =
    let n = c.requires.count in
    let s = c.requires.slot in
    let f = (disk_of c.args.disk.now).face in
    let g : (disk_of c.put.new.self).face ≡ after f (Write c.args.i c.args.from.now.bytes) = ap (λ (d : Disk). d.face) c.put.ensures.told ∙ ap (λ (d : Disk). after d.face (Write c.args.i c.args.from.now.bytes)) c.keeps_held-keeps.ensures.told in
    set_table c.args.held.now c.args.slot c.follow.new.held _
    (puts c.args.version f _ c.args.slot c.args.i c.args.from.now.bytes _ _ _ _ g c.follow.ensures.value (sym c.keeps_held-keeps.ensures.value) (at_table c.args.held.now c.args.slot (omega arith)))
