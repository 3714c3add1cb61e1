use Rattle.std.proofs.Common.{ap, refl, set, subst, sym, ◌∙◌}
use Rattle.vr_disk.specs.DiskState.{Disk}
use Rattle.vr_mem.specs.Cells.{disk_of}
use Rattle.std.proofs.lemmas.List.{length-map}
use Rattle.vr_lie.specs.Faults.{held_at}
use Rattle.vr_rings.specs.Held.{looked}
use Rattle.vr_lie.specs.Table.{IsTable, held_of, table_of}
use Rattle.vr_lie.proofs.Tables.{all_looked, looked_table, more_looked, none_looked}
use Rattle.vr_lie.proofs.table.look_all.Goals as goal

pub loop-slot-init : goal.loop-slot-init
loop-slot-init c = record { told = refl; faults = refl; looked = none_looked c.args.version (disk_of c.args.disk.now).face (table_of c.args.held.now) (length-map c.args.held.now held_of ∙ c.requires) }

pub loop-slot-preserved : goal.loop-slot-preserved
loop-slot-preserved c =
    let i = c.loop-slot.invariant in
    let n = c.loop-slot.slot in
    let mid = table_of c.loop-slot.held in
    record {
      told = c.look.ensures.told ∙ i.told;
      faults = c.look.ensures.faults ∙ i.faults;
      looked = more_looked c.args.version (disk_of c.args.disk.now).face n (table_of c.args.held.now) mid (table_of c.look.new.held) c.loop-slot-test.true i.looked
          (c.look.ensures.held ∙ ap (λ (d : Disk). set mid n (looked c.args.version d.face n (held_at mid n))) i.told);
    }

pub returns-clause-held : goal.returns-clause-held
returns-clause-held c = all_looked c.args.version (disk_of c.args.disk.now).face c.loop-slot.slot (table_of c.args.held.now) (table_of c.loop-slot.held) c.loop-slot-test.false c.loop-slot.invariant.looked

pub returns-clause-table : goal.returns-clause-table
returns-clause-table c =
    let t = looked_table c.args.version (disk_of c.args.disk.now).face (table_of c.args.held.now) (table_of c.loop-slot.held) c.loop-slot.invariant.looked.count (returns-clause-held c) in
    subst (λ (d : Disk). IsTable c.args.version d.face (table_of c.loop-slot.held)) (sym c.loop-slot.invariant.told) t
