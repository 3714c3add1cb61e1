use Rattle.std.proofs.Common.{◌∙◌, sym}
use Rattle.vr_header.specs.Same.{same_header}
use Rattle.vr_header.proofs.SameHeaders.{same_header_is}
use Rattle.vr_group.proofs.same.is_header.Goals as goal

pub returns : goal.returns
unfolding same_header
returns c e = same_header_is c.args.a.now c.args.b.now (sym c.eq.ensures ∙ e)
