use Rattle.std.proofs.Common.{◌∙◌, arith}
use Rattle.vr_volatile.proofs.Stated.{told_ends}
use Rattle.vr_volatile.proofs.stating.told_from.Goals as goal

pub returns : goal.returns
returns c = c.loop-i.invariant.told ∙ told_ends _ _ _ _ c.last_told-end.ensures.value (omega arith)
