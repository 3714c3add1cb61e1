use Rattle.std.proofs.Common.{◌≡◌}
use Rattle.vr_lie.specs.Table.{table_of}
use Rattle.vr_lie.proofs.Tables.{LookedTo}
use Rattle.vr_mem.specs.Cells.{disk_of}
use Rattle.vr_lie.proofs.table.look_all.Given as goal

abbrev pub invariant-loop-slot : goal.invariant-loop-slot
invariant-loop-slot l = record {
  told : disk_of l.disk ≡ disk_of l.fn.disk;
  faults : l.disk.faults ≡ l.fn.disk.faults;
  looked : LookedTo l.fn.version (disk_of l.fn.disk).face l.slot (table_of l.fn.held) (table_of l.held);
}
