use Rattle.std.proofs.Common.{ap, subst, sym, ◌∙◌, ◌≡◌}
use Rattle.vr_disk.specs.DiskState.{Disk, Face, IsFace}
use Rattle.vr_mem.specs.Cells.{disk_of}
use Rattle.vr_super.specs.Opens.{good_copies, opened}
use Rattle.vr_lie.specs.Table.{both}
use Rattle.vr_lie.proofs.Trials.{alike, same_seen, tried, undone_told}
use Rattle.vr_lie.proofs.trial.opens_alike.Goals as goal

pub returns-clause-told : goal.returns-clause-told
returns-clause-told c =
    let both_seen = c.seen-second.ensures.told ∙ c.seen-first.ensures.told in
    undone_told (disk_of c.args.disk.now) _ _ _ _ c.args.a.now c.args.b.now c.seen-first.result c.seen-second.result c.args.disk.now.sectors.whole c.requires.a c.requires.b c.seen-first.ensures.at c.seen-second.ensures.at c.seen-first.ensures.same
    (same_seen (disk_of c.args.disk.now) _ c.seen-second.result c.seen-first.ensures.told c.seen-second.ensures.same)
    (c.opening-opened.ensures.told ∙ both_seen) c.show_both.ensures.told c.opening-opens.ensures.told c.show_both-2.ensures.told

pub returns-clause-value : goal.returns-clause-value
returns-clause-value c =
    let f = (disk_of c.args.disk.now).face in
    let g = both f c.args.a.now c.args.b.now in
    let both_seen = c.seen-second.ensures.told ∙ c.seen-first.ensures.told in
    let was = ap (λ (d : Disk). opened (good_copies d.face)) (sym both_seen) ∙ c.opening-opened.ensures.value in
    let there : (disk_of c.opening-opens.new.disk).face ≡ g = tried (disk_of c.args.disk.now) _ _ _ c.args.a.now c.args.b.now (c.opening-opened.ensures.told ∙ both_seen) c.show_both.ensures.told c.opening-opens.ensures.told in
    let shown : (disk_of c.show_both.new.disk).face ≡ g = sym (ap (λ (d : Disk). d.face) c.opening-opens.ensures.told) ∙ there in
    let now : opened (good_copies g) ≡ _ = ap (λ g. opened (good_copies g)) (sym shown) ∙ c.opening-opens.ensures.value in
    alike f g c.is_alike.result _ _ c.args.disk.now.sectors.whole (subst (λ (f : Face). IsFace f) there c.opening-opens.new.disk.sectors.whole) was now c.is_alike.ensures
