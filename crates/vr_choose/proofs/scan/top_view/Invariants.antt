use Rattle.std.proofs.Common.{◌≡◌, max, drop}
use Rattle.vr_msg.specs.Choice.{top_view}
use Rattle.vr_choose.proofs.scan.top_view.Given as goal

abbrev pub invariant-loop-s : goal.invariant-loop-s
invariant-loop-s l = max l.top (top_view (drop l.s-index l.statements)) ≡ top_view l.statements
