use Rattle.std.proofs.Common.{◌∙◌, sym}
use Rattle.vr_mem.specs.Cells.{disk_of}
use Rattle.vr_lie.specs.Table.{held_of}
use Rattle.vr_lie.proofs.Early.{early_looked, early_own}
use Rattle.vr_lie.proofs.table.look_in.Goals as goal

pub look_whole-requires-clause-own : goal.look_whole-requires-clause-own
look_whole-requires-clause-own c = early_own c.args.version (disk_of c.args.disk.now).face c.args.slot c.args.disk.now.sectors.whole c.requires (sym c.begins_alike.ensures ∙ c.if-begins_alike.true)

pub returns-else-begins_alike-clause-value : goal.returns-else-begins_alike-clause-value
returns-else-begins_alike-clause-value c =
    early_looked c.args.version (disk_of c.args.disk.now).face c.args.slot (held_of c.args.held.now) c.args.disk.now.sectors.whole c.requires (sym c.begins_alike.ensures ∙ c.if-begins_alike.false)
