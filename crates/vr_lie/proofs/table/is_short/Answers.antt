use Rattle.std.proofs.Common.{◌∙◌, ap, cond, sym, Bool, None, Some}
use Rattle.std.specs.Prelude.{is_some}
use Rattle.vr_mem.specs.Cells.{disk_of}
use Rattle.vr_rings.specs.Slots.{in_front, whole_of}
use Rattle.vr_lie.proofs.Early.{some_map}
use Rattle.vr_lie.proofs.Ending.{other_looked, short_looked}
use Rattle.vr_lie.proofs.table.is_short.Goals as goal

pub returns-then-ends_first-clause-value : goal.returns-then-ends_first-clause-value
returns-then-ends_first-clause-value c =
    let first = c.args.first.now in
    short_looked c.args.version (disk_of c.args.disk.now).face c.args.slot first c.is_some.result c.requires.size c.requires.first c.requires.own (sym c.ends_first.ensures.value ∙ c.if-ends_first.true)
    (c.is_some.ensures ∙ (ap is_some c.whole_front.ensures.value ∙ some_map _ (whole_of (in_front first))))

pub returns-else-ends_first-clause-value : goal.returns-else-ends_first-clause-value
returns-else-ends_first-clause-value c =
    ap (λ (r : Bool). cond r (Some (in_front c.args.first.now)) None) c.if-ends_first.false
    ∙ other_looked c.args.version (disk_of c.args.disk.now).face c.args.slot c.args.first.now c.args.disk.now.sectors.whole c.requires.slot c.requires.size c.requires.short c.requires.first (sym c.ends_first.ensures.value ∙ c.if-ends_first.false)
