-- What was read are sessions with this text; a fault is the first.
use Rattle.std.proofs.Common.{arith}
use Rattle.std.proofs.lemmas.Result.{err_from_is_err_and}
use Rattle.vr_state.proofs.SessionNumbers.{decoded_numbers}
use Rattle.vr_state.proofs.Spelled.{sessions_found, sessions_fault}
use Rattle.vr_state.proofs.sessions.Sessions.decode_state.Goals as goal

pub returns-in_err-table-clause-first : goal.returns-in_err-table-clause-first
returns-in_err-table-clause-first c =
    let p = err_from_is_err_and c.from_residual.result c.from_residual.ensures.1 in
    rw (p.1, p.2) (sessions_fault c.args.bytes.now (λ i. omega (arith, c.type_inv.bytes i)) c.in_err-table.field-0.0 c.in_err-table.ensures.fault)

pub invariant_of-result : goal.invariant_of-result
invariant_of-result c = (sessions_found c.args.bytes.now (λ i. omega (arith, c.type_inv.bytes i)) c.in_ok-table.table.entries c.in_ok-table.ensures.table).0

pub returns-clause-text : goal.returns-clause-text
returns-clause-text c = (sessions_found c.args.bytes.now (λ i. omega (arith, c.type_inv.bytes i)) c.in_ok-table.table.entries c.in_ok-table.ensures.table).1

pub returns-clause-numbers : goal.returns-clause-numbers
returns-clause-numbers c = decoded_numbers c.args.bytes.now c.in_ok-table.table.entries c.in_ok-table.ensures.table
