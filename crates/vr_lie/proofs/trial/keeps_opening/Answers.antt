use Rattle.std.proofs.Common.{refl, sym, ◌∙◌}
use Rattle.vr_mem.specs.Cells.{disk_of}
use Rattle.vr_lie.proofs.Copies.{one_hit}
use Rattle.vr_lie.proofs.Trials.{far}
use Rattle.vr_lie.proofs.trial.keeps_opening.Goals as goal

pub returns-then-b-ge-COPIES_END-clause-value : goal.returns-then-b-ge-COPIES_END-clause-value
returns-then-b-ge-COPIES_END-clause-value c = (λ t. far (disk_of c.args.disk.now).face c.args.a.now c.args.b.now c.if-a-ge-COPIES_END.true c.if-b-ge-COPIES_END.true, λ e. refl)

-- the other copies have the value before and after
pub returns-then-are_alike-clause-value : goal.returns-then-are_alike-clause-value
returns-then-are_alike-clause-value c =
    (λ t. one_hit (disk_of c.args.disk.now).face c.args.a.now c.args.b.now (c.are_alike.ensures.value c.if-are_alike.true) (sym c.hits_one_copy.ensures ∙ c.if-hits_one_copy.true), λ e. refl)
