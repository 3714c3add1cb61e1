use Rattle.std.proofs.Common.{arith, sym, ◌∙◌}
use Rattle.vr_codec.proofs.Decided.{fault_found, is_alone, no_memory, none_spells, only_one, some_message}
use Rattle.vr_codec.proofs.codec.decode.Goals as goal

pub returns-in-Ok-clause-only : goal.returns-in-Ok-clause-only
returns-in-Ok-clause-only c = only_one c.args.bytes.now c.read_message.result c.read_message.ensures

pub returns-in-Ok-clause-alone : goal.returns-in-Ok-clause-alone
returns-in-Ok-clause-alone c = is_alone c.args.bytes.now c.read_message.result c.read_message.ensures

pub returns-in-Err-clause-fault : goal.returns-in-Err-clause-fault
returns-in-Err-clause-fault c = λ _. fault_found c.args.bytes.now c.in-Err.fault (sym c.inspect.ensures ∙ c.in-Err.is)

pub returns-in-Err-clause-only : goal.returns-in-Err-clause-only
returns-in-Err-clause-only c = none_spells c.args.bytes.now c.in-Err.fault _ (sym c.inspect.ensures ∙ c.in-Err.is)

pub returns-in-Ok-clause-memory : goal.returns-in-Ok-clause-memory
returns-in-Ok-clause-memory c = λ _. some_message c.args.bytes.now c.in-Ok.header (λ i. omega (arith, c.type_inv.bytes i)) (sym c.inspect.ensures ∙ c.in-Ok.is)

pub returns-in-Err-clause-memory : goal.returns-in-Err-clause-memory
returns-in-Err-clause-memory c = λ e. absurd (no_memory c.args.bytes.now c.in-Err.fault (sym c.inspect.ensures ∙ c.in-Err.is) cc)
