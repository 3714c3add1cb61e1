use Rattle.std.proofs.Common.{sym}
use Rattle.vr_mem.specs.Cells.{disk_of}
use Rattle.vr_lie.specs.Table.{table_of}
use Rattle.vr_lie.proofs.Tables.{begun_none, begun_some}
use Rattle.vr_lie.proofs.table.begin.Goals as goal

pub returns-in-Some-clause-held : goal.returns-in-Some-clause-held
returns-in-Some-clause-held c =
    begun_some c.args.version c.args.code (disk_of c.args.disk.now).face c.args.i c.in-Some.slot c.args.from.now.bytes (table_of c.args.held.now) (table_of c.begin_in.new.held) c.requires.table (sym c.in-Some.ensures.slot) c.in-Some.ensures.within c.begin_in.ensures.held

pub returns-in-None-clause-held : goal.returns-in-None-clause-held
returns-in-None-clause-held c = begun_none c.args.version c.args.code (disk_of c.args.disk.now).face c.args.i c.args.from.now.bytes (table_of c.args.held.now) c.requires.table (sym c.in-None.ensures.slot)
