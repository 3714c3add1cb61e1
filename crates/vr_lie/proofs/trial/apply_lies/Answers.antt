use Rattle.std.proofs.Common.{◌∙◌, ◌≡◌, ap, subst, sym}
use Rattle.vr_disk.specs.DiskState.{Disk, Face}
use Rattle.vr_mem.specs.Cells.{disk_of}
use Rattle.vr_lie.specs.Table.{IsTable, both, table_of}
use Rattle.vr_lie.proofs.Tables.{looked_table}
use Rattle.vr_lie.proofs.Trials.{lied_looked}
use Rattle.vr_lie.proofs.trial.apply_lies.Goals as goal

pub returns-clause-held : goal.returns-clause-held
returns-clause-held c =
    let f = (disk_of c.args.disk.now).face in
    let g : (disk_of c.show_both.new.disk).face ≡ both f c.args.a.now c.args.b.now = ap (λ (d : Disk). d.face) c.show_both.ensures.told in
    let h : (disk_of c.look_at.new.disk).face ≡ both f c.args.a.now c.args.b.now = ap (λ (d : Disk). d.face) c.look_at.ensures.told ∙ g in
    lied_looked c.args.version f c.args.a.now c.args.b.now _ _ (table_of c.args.held.now) _ _ c.requires.table g h c.look_at.ensures.held c.look_at-2.ensures.held

pub returns-clause-table : goal.returns-clause-table
returns-clause-table c =
    let f = (disk_of c.args.disk.now).face in
    let z = both f c.args.a.now c.args.b.now in
    let there : (disk_of c.look_at-2.new.disk).face ≡ z = ap (λ (d : Disk). d.face) (c.look_at-2.ensures.told ∙ (c.look_at.ensures.told ∙ c.show_both.ensures.told)) in
    subst (λ (f : Face). IsTable c.args.version f (table_of c.look_at-2.new.held)) (sym there)
    (looked_table c.args.version z (table_of c.args.held.now) (table_of c.look_at-2.new.held) c.look_at-2.ensures.held.count (returns-clause-held c))
