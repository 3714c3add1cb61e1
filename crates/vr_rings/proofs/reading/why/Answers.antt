use Rattle.std.proofs.Common.{◌∙◌, ap, cond, sym}
use Rattle.vr_rings.specs.declared.fault.NotWhole.TheVariants.{Bad, Blank}
use Rattle.vr_rings.proofs.Fronts.{zeros_front}
use Rattle.vr_rings.proofs.reading.why.Goals as goal

pub returns-then-is_zeros : goal.returns-then-is_zeros
returns-then-is_zeros c = sym (ap (λ b. cond b Blank Bad) (zeros_front c.args.bytes.now ∙ (sym c.is_zeros.ensures ∙ c.if-is_zeros.true)))

pub returns-else-is_zeros : goal.returns-else-is_zeros
returns-else-is_zeros c = sym (ap (λ b. cond b Blank Bad) (zeros_front c.args.bytes.now ∙ (sym c.is_zeros.ensures ∙ c.if-is_zeros.false)))
