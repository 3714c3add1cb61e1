-- With what is left to read the answer is the same, and in the end nothing is.
use Rattle.std.proofs.Common.{◌≡◌, suc, ◌+◌, ◌-◌, sym, ◌∙◌, arith}
use Rattle.std.proofs.lemmas.Result.{err_from_is_err_and}
use Rattle.std.specs.Ordering.{nat_cmp}
use Rattle.vr_state.proofs.Tables.{read_whole, read_rest}
use Rattle.vr_state.specs.SessionTexts.{session_from}
use Rattle.vr_state.proofs.session_codec.read_on.Goals as goal

pub returns-in_err-rest-clause-fault : goal.returns-in_err-rest-clause-fault
returns-in_err-rest-clause-fault c =
    let one_more : c.args.count - c.loop-i.i ≡ suc (c.args.count - (c.loop-i.i + 1)) = omega arith in
    let p = err_from_is_err_and c.from_residual.result c.from_residual.ensures.1 in
    rw (p.1, p.2, ← c.loop-i.invariant.left, one_more) (c.in_err-rest.ensures.fault (c.args.count - (c.loop-i.i + 1)))

pub returns-then-is_empty-clause-table : goal.returns-then-is_empty-clause-table
returns-then-is_empty-clause-table c =
    let all : c.args.count - c.loop-i.i ≡ 0 = omega arith in
    rw (← c.loop-i.invariant.left, all) (read_whole nat_cmp session_from c.loop-i.table.entries c.loop-i.rest.now (sym c.is_empty.ensures ∙ c.if-is_empty.true))

pub returns-clause-fault : goal.returns-clause-fault
returns-clause-fault c =
    let all : c.args.count - c.loop-i.i ≡ 0 = omega arith in
    rw (← c.loop-i.invariant.left, all) (read_rest nat_cmp session_from c.loop-i.table.entries c.loop-i.rest.now (sym c.is_empty.ensures ∙ c.if-is_empty.false))
