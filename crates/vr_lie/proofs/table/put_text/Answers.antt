use Rattle.std.proofs.Common.{◌∙◌, ap, length, length-set, subst, sym}
use Rattle.vr_disk.specs.DiskState.{Disk, Write, after}
use Rattle.vr_disk.specs.Fronts.{front}
use Rattle.vr_mem.specs.Cells.{disk_of}
use Rattle.vr_lie.specs.Faults.{HeldAfter}
use Rattle.vr_lie.specs.Table.{table_of}
use Rattle.vr_lie.proofs.Tables.{after_table, put_none, put_some}
use Rattle.vr_lie.proofs.table.put_text.Goals as goal

pub returns-in-Some-clause-held : goal.returns-in-Some-clause-held
returns-in-Some-clause-held c =
    let f = (disk_of c.args.disk.now).face in
    let old = table_of c.args.held.now in
    let new = table_of c.put_in.new.held in
    subst (λ b. HeldAfter c.args.version f (Write c.args.i b) old new) c.front_sector-sector.ensures
    (put_some c.args.version f c.args.i c.in-Some.slot c.front_sector-sector.result.bytes old new c.requires.table (sym c.in-Some.ensures.slot) c.in-Some.ensures.within c.put_in.ensures.held)

pub returns-in-None-clause-held : goal.returns-in-None-clause-held
returns-in-None-clause-held c = put_none c.args.version (disk_of c.args.disk.now).face c.args.i (front c.args.text.now) (table_of c.args.held.now) c.requires.table (sym c.in-None.ensures.slot)

pub returns-in-Some-clause-table : goal.returns-in-Some-clause-table
returns-in-Some-clause-table c =
    let f = (disk_of c.args.disk.now).face in
    let there = ap (λ (d : Disk). d.face) c.put_in.ensures.told ∙ ap (λ b. after f (Write c.args.i b)) c.front_sector-sector.ensures in
    after_table c.args.version f _ c.args.i (front c.args.text.now) (table_of c.args.held.now) (table_of c.put_in.new.held) there
    (ap length c.put_in.ensures.held ∙ (length-set (table_of c.args.held.now) c.in-Some.slot _ ∙ c.requires.table.count)) (returns-in-Some-clause-held c)

pub returns-in-None-clause-table : goal.returns-in-None-clause-table
returns-in-None-clause-table c =
    after_table c.args.version (disk_of c.args.disk.now).face _ c.args.i (front c.args.text.now) (table_of c.args.held.now) (table_of c.args.held.now) (ap (λ (d : Disk). d.face) c.put_named.ensures.told) c.requires.table.count (returns-in-None-clause-held c)
