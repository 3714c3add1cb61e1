use Rattle.std.proofs.Common.{arith, ap}
use Rattle.vr_super.specs.declared.fields.Fields.{Fields}
use Rattle.vr_volatile.proofs.Blanks.{blank_room}
use Rattle.vr_volatile.proofs.blank.count_of.Goals as goal

pub overflow_add-result-2 : goal.overflow_add-result-2
overflow_add-result-2 c =
    let n = (blank_room _ c.fields.ensures.good).number in
    let e = ap (λ (f : Fields). f.checkpoint) c.fields.ensures.value in
    omega (arith, n, e)

pub overflow_sub-result : goal.overflow_sub-result
overflow_sub-result c =
    let n = (blank_room _ c.fields.ensures.good).reach in
    let e = ap (λ (f : Fields). f.checkpoint) c.fields.ensures.value in
    let first = c.first_of-first.ensures in
    omega (arith, n, e, first)
