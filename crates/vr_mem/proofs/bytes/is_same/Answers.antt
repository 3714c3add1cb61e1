use Rattle.std.proofs.Common.{rules, sym, ◌∙◌}
use Rattle.vr_mem.proofs.Marks.{other_marks, same_marks}
use Rattle.vr_mem.proofs.bytes.is_same.Goals as goal

pub returns-then-eq : goal.returns-then-eq
returns-then-eq c = c.eq-then-eq.ensures ∙ same_marks c.args.mark c.args.other_mark c.args.bytes.now c.args.other.now (sym c.eq.ensures ∙ c.if-eq.true)

pub returns-else-eq : goal.returns-else-eq
returns-else-eq c =
    c.if-eq.false ∙ other_marks c.args.mark c.args.other_mark c.args.bytes.now c.args.other.now c.requires (search rules) (search rules) (sym c.eq.ensures ∙ c.if-eq.false)
