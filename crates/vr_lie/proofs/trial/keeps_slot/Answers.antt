use Rattle.std.proofs.Common.{◌<◌, ◌∙◌, ap, arith, Bool, cond, get_or, length, sym, Some, None}
use Rattle.vr_mem.specs.Cells.{disk_of}
use Rattle.vr_lie.specs.Table.{both, prepare_of, table_of}
use Rattle.vr_lie.proofs.Tables.{at_table, no_held}
use Rattle.vr_lie.proofs.Trials.{slot_keeps}
use Rattle.vr_lie.proofs.trial.keeps_slot.Goals as goal

pub returns-then-held-clause-value : goal.returns-then-held-clause-value
returns-then-held-clause-value c =
    let f = (disk_of c.args.disk.now).face in
    let h = get_or c.args.held.now c.in-Some.slot no_held in
    let l : c.in-Some.slot < length c.args.held.now = let n = c.requires.count in let w = c.in-Some.ensures.within in omega arith in
    slot_keeps c.args.version f (both f c.args.a.now c.args.b.now) c.args.at c.in-Some.slot (table_of c.args.held.now) _ c.still_holds.result (sym c.in-Some.ensures.slot)
    (at_table c.args.held.now c.in-Some.slot l ∙ (ap (λ (b : Bool). cond b (Some (prepare_of h)) None) c.if-held.true ∙ ap Some (sym c.whole.ensures))) c.still_holds.ensures.value
