use Rattle.std.proofs.Common.{◌≡◌, drop}
use Rattle.vr_msg.specs.Choice.{named_by}
use Rattle.vr_choose.proofs.scan.named_by.Given as goal

abbrev pub invariant-loop-s : goal.invariant-loop-s
invariant-loop-s l = named_by l.view l.k (drop l.s-index l.statements) ≡ named_by l.view l.k l.statements
