use Rattle.std.proofs.Common.{sym, ◌∙◌}
use Rattle.vr_mem.proofs.Marks.{owed_zeros, plain_zeros}
use Rattle.vr_mem.proofs.bytes.are_zeros.Goals as goal

pub returns-then-eq : goal.returns-then-eq
returns-then-eq c = c.is_zeros.ensures ∙ plain_zeros c.args.mark c.args.bytes.now (sym c.eq.ensures ∙ c.if-eq.true)

pub returns-else-eq : goal.returns-else-eq
returns-else-eq c = c.if-eq.false ∙ owed_zeros c.args.mark c.args.bytes.now c.requires (sym c.eq.ensures ∙ c.if-eq.false)
