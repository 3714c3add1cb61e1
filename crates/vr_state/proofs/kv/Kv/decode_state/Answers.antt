-- What was read is a machine with this text; a fault is the first.
use Rattle.std.proofs.Common.{arith}
use Rattle.std.proofs.lemmas.Result.{err_from_is_err_and}
use Rattle.vr_state.proofs.KvTexts.{kv_found, kv_fault}
use Rattle.vr_state.proofs.kv.Kv.decode_state.Goals as goal

pub returns-in_err-read_pairs-clause-first : goal.returns-in_err-read_pairs-clause-first
returns-in_err-read_pairs-clause-first c =
    let p = err_from_is_err_and c.from_residual.result c.from_residual.ensures.1 in
    rw (p.1, p.2) (kv_fault c.args.bytes.now (λ i. omega (arith, c.type_inv.bytes i)) c.in_err-read_pairs.field-0.0 c.in_err-read_pairs.ensures.fault)

pub invariant_of-result : goal.invariant_of-result
invariant_of-result c =
    rw c.into_vec-pairs.ensures (kv_found c.args.bytes.now (λ i. omega (arith, c.type_inv.bytes i)) c.in_ok-read_pairs.field-0 c.in_ok-read_pairs.ensures.pairs).0

pub returns-clause-text : goal.returns-clause-text
returns-clause-text c =
    rw c.into_vec-pairs.ensures (kv_found c.args.bytes.now (λ i. omega (arith, c.type_inv.bytes i)) c.in_ok-read_pairs.field-0 c.in_ok-read_pairs.ensures.pairs).1
