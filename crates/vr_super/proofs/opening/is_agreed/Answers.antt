use Rattle.std.proofs.Common.{◌∙◌, ap, leb}
use Rattle.vr_super.proofs.Choosing.{counts}
use Rattle.vr_super.proofs.opening.is_agreed.Goals as goal

pub returns : goal.returns
returns c = ap (leb 2) (c.holders.ensures ∙ counts c.args.bytes.now c.args.readings.now)
