use Rattle.std.proofs.Common.{◌≡◌, ap, arith, length, subst, sym}
use Rattle.std.proofs.lemmas.List.{with_items_is}
use Rattle.vr_disk.specs.DiskState.{Disk}
use Rattle.vr_mem.specs.Cells.{disk_of}
use Rattle.vr_lie.specs.Faults.{HeldLooked}
use Rattle.vr_lie.specs.Laws.{AllStand}
use Rattle.vr_lie.specs.Table.{table_of}
use Rattle.vr_lie.proofs.Premise.{looked_stands}
use Rattle.vr_lie.proofs.disk.LieDisk.set_version.Goals as goal

pub returns-clause-premise : goal.returns-clause-premise
returns-clause-premise c mode stood =
    let v = c.args.version in
    let d = disk_of c.args.self.now.disk in
    let held = c.args.self.now.held in
    let new = c.look_all.new.held in
    let whole : length new ≡ held.len = let n = c.look_all.auto.held in let m = c.as_mut_slice.ensures.len in omega arith in
    let looked : HeldLooked v d.face (table_of held.items) (table_of new) = subst (λ t. HeldLooked v d.face t (table_of new)) (ap table_of c.as_mut_slice.ensures.value) c.look_all.ensures.held in
    let stands = looked_stands v d.face (table_of held.items) (table_of new) looked stood in
    let there : AllStand v mode (disk_of c.look_all.new.disk).face (table_of new) = subst (λ (e : Disk). AllStand v mode e.face (table_of new)) (sym c.look_all.ensures.told) stands in
    subst (λ items. AllStand v mode (disk_of c.look_all.new.disk).face (table_of items)) (sym (with_items_is held new whole)) there
