use Rattle.std.proofs.Common.{ap, ◌∙◌, ◌≡◌}
use Rattle.vr_disk.specs.DiskState.{Disk, Write, after, settle}
use Rattle.vr_mem.specs.Cells.{disk_of}
use Rattle.vr_lie.specs.Table.{table_of}
use Rattle.vr_lie.proofs.Tables.{write_cut}
use Rattle.vr_lie.proofs.table.cut_put.Goals as goal

pub returns-clause-held : goal.returns-clause-held
returns-clause-held c =
    let f = (disk_of c.args.disk.now).face in
    let g : (disk_of c.settle.new.self).face ≡ settle c.args.code (after f (Write c.args.i c.args.from.now.bytes)) = ap (λ (d : Disk). d.face) c.settle.ensures.told ∙ ap (λ (d : Disk). settle c.args.code d.face) c.begin.ensures.told in
    write_cut c.args.version c.args.code f _ c.args.i c.args.from.now.bytes (table_of c.args.held.now) (table_of c.begin.new.held) _ g c.begin.ensures.held c.look_all.ensures.held
