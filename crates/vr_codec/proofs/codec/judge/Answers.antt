use Rattle.std.proofs.Common.{arith, sym, ◌∙◌}
use Rattle.vr_codec.proofs.Decided.{fault_found, some_message}
use Rattle.vr_codec.proofs.codec.judge.Goals as goal

pub returns-in-Ok : goal.returns-in-Ok
returns-in-Ok c = some_message c.args.bytes.now c.in-Ok.field-0 (λ i. omega (arith, c.type_inv.bytes i)) (sym c.inspect.ensures ∙ c.in-Ok.is)

pub returns-in-Err : goal.returns-in-Err
returns-in-Err c = fault_found c.args.bytes.now c.in-Err.fault (sym c.inspect.ensures ∙ c.in-Err.is)
