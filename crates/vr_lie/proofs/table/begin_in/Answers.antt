-- begin_in
use Rattle.std.proofs.Common.{arith, ap, sym, ◌∙◌, ◌≡◌, ◌<◌, None, length, set}
use Rattle.std.proofs.lemmas.List.{set-get_or}
use Rattle.vr_disk.specs.DiskState.{Disk, Write, after}
use Rattle.vr_mem.specs.Cells.{disk_of}
use Rattle.vr_lie.specs.Table.{table_of}
use Rattle.vr_lie.proofs.Tables.{at_table, begins_new, begins_old, puts, set_table}
use Rattle.vr_lie.proofs.table.begin_in.Goals as goal

pub returns-then-digit-ne0-clause-held : goal.returns-then-digit-ne0-clause-held
returns-then-digit-ne0-clause-held c =
    let f = (disk_of c.args.disk.now).face in
    let b = c.args.from.now.bytes in
    let l : c.args.slot < length c.args.held.now = let n = c.requires.count in let s = c.requires.slot in omega arith in
    let g : (disk_of c.put.new.self).face ≡ after f (Write c.args.i b) = ap (λ (d : Disk). d.face) c.put.ensures.told ∙ ap (λ (d : Disk). after d.face (Write c.args.i b)) c.keeps_held-keeps.ensures.told in
    set_table c.args.held.now c.args.slot c.follow.new.held _
    (begins_new c.args.version c.args.code f c.args.i b c.args.slot c.digit.result _ _ (disk_of c.put.new.self).face.waiting c.digit.ensures (ap (λ f. f.waiting) g) c.if-digit-ne0.true
    (puts c.args.version f _ c.args.slot c.args.i b _ _ _ _ g c.follow.ensures.value (sym c.keeps_held-keeps.ensures.value) (at_table c.args.held.now c.args.slot l)))

pub returns-else-digit-ne0-clause-held : goal.returns-else-digit-ne0-clause-held
returns-else-digit-ne0-clause-held c =
    let f = (disk_of c.args.disk.now).face in
    let b = c.args.from.now.bytes in
    let table = table_of c.args.held.now in
    let g : (disk_of c.put.new.self).face ≡ after f (Write c.args.i b) = ap (λ (d : Disk). d.face) c.put.ensures.told ∙ ap (λ (d : Disk). after d.face (Write c.args.i b)) c.keeps_held-keeps.ensures.told in
    sym (set-get_or table c.args.slot None)
    ∙ ap (set table c.args.slot) (begins_old c.args.version c.args.code f c.args.i b c.args.slot c.digit.result _ (disk_of c.put.new.self).face.waiting c.digit.ensures (ap (λ f. f.waiting) g) c.if-digit-ne0.false)
