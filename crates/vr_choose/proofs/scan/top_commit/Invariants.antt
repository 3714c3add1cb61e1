use Rattle.std.proofs.Common.{◌≡◌, max, drop}
use Rattle.vr_msg.specs.Choice.{top_commit}
use Rattle.vr_choose.proofs.scan.top_commit.Given as goal

abbrev pub invariant-loop-s : goal.invariant-loop-s
invariant-loop-s l = max l.top (top_commit (drop l.s-index l.statements)) ≡ top_commit l.statements
