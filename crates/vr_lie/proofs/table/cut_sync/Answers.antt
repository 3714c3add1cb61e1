use Rattle.std.proofs.Common.{ap}
use Rattle.vr_disk.specs.DiskState.{Disk}
use Rattle.vr_mem.specs.Cells.{disk_of}
use Rattle.vr_lie.specs.Table.{table_of}
use Rattle.vr_lie.proofs.Tables.{sync_cut}
use Rattle.vr_lie.proofs.table.cut_sync.Goals as goal

pub returns-clause-held : goal.returns-clause-held
returns-clause-held c = sync_cut c.args.version c.args.code (disk_of c.args.disk.now).face _ (table_of c.args.held.now) _ (ap (λ (d : Disk). d.face) c.settle.ensures.told) c.look_all.ensures.held
