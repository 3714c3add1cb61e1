use Rattle.std.proofs.Common.{◌∙◌, sym}
use Rattle.vr_rings.specs.Held.{is_prepare}
use Rattle.vr_lie.specs.Table.{held_of}
use Rattle.vr_lie.proofs.Ending.{found_same}
use Rattle.vr_lie.proofs.table.find.Goals as goal

pub returns-then-is_held-clause-value : goal.returns-then-is_held-clause-value
returns-then-is_held-clause-value c = found_same (held_of c.args.held.now) c.args.bytes.now (is_prepare c.args.bytes.now) (sym c.is_held.ensures ∙ c.if-is_held.true)
