use Rattle.std.proofs.Common.{◌∙◌, ap, length, length-set, sym}
use Rattle.vr_disk.specs.DiskState.{Disk}
use Rattle.vr_mem.specs.Cells.{disk_of}
use Rattle.vr_lie.specs.Table.{table_of}
use Rattle.vr_lie.proofs.Tables.{after_table, put_none, put_some}
use Rattle.vr_lie.proofs.table.put.Goals as goal

pub returns-in-Some-clause-held : goal.returns-in-Some-clause-held
returns-in-Some-clause-held c =
    put_some c.args.version (disk_of c.args.disk.now).face c.args.i c.in-Some.slot c.args.from.now.bytes (table_of c.args.held.now) (table_of c.put_in.new.held) c.requires.table (sym c.in-Some.ensures.slot) c.in-Some.ensures.within c.put_in.ensures.held

pub returns-in-None-clause-held : goal.returns-in-None-clause-held
returns-in-None-clause-held c = put_none c.args.version (disk_of c.args.disk.now).face c.args.i c.args.from.now.bytes (table_of c.args.held.now) c.requires.table (sym c.in-None.ensures.slot)

pub returns-in-Some-clause-table : goal.returns-in-Some-clause-table
returns-in-Some-clause-table c =
    after_table c.args.version (disk_of c.args.disk.now).face _ c.args.i c.args.from.now.bytes (table_of c.args.held.now) (table_of c.put_in.new.held) (ap (λ (d : Disk). d.face) c.put_in.ensures.told)
    (ap length c.put_in.ensures.held ∙ (length-set (table_of c.args.held.now) c.in-Some.slot _ ∙ c.requires.table.count)) (returns-in-Some-clause-held c)

pub returns-in-None-clause-table : goal.returns-in-None-clause-table
returns-in-None-clause-table c =
    after_table c.args.version (disk_of c.args.disk.now).face _ c.args.i c.args.from.now.bytes (table_of c.args.held.now) (table_of c.args.held.now) (ap (λ (d : Disk). d.face) c.put.ensures.told) c.requires.table.count (returns-in-None-clause-held c)
