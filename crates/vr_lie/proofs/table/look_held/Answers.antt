use Rattle.vr_mem.specs.Cells.{disk_of}
use Rattle.vr_lie.specs.Table.{held_of}
use Rattle.vr_lie.proofs.Early.{none_looked, whole_looked}
use Rattle.vr_lie.proofs.table.look_held.Goals as goal

pub returns-then-read_bytes-clause-value : goal.returns-then-read_bytes-clause-value
returns-then-read_bytes-clause-value c =
    whole_looked c.args.version (disk_of c.args.disk.now).face c.args.slot c.read_bytes.new.to (held_of c.args.held.now) (held_of c.find.new.held) c.requires.own c.if-read_bytes.ensures.value c.find.ensures.value

pub returns-else-read_bytes-clause-value : goal.returns-else-read_bytes-clause-value
returns-else-read_bytes-clause-value c = none_looked c.args.version (disk_of c.args.disk.now).face c.args.slot (held_of c.args.held.now) c.if-read_bytes.ensures.value
