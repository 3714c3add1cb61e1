use Rattle.std.proofs.Common.{◌≡◌, ◌++◌}
use Rattle.vr_msg.specs.Choice.{log_headers}
use Rattle.vr_choose.proofs.Rests.{headers_from}
use Rattle.vr_choose.proofs.walk.log_headers.Given as goal

abbrev pub invariant-loop-k : goal.invariant-loop-k
invariant-loop-k l = l.headers ++ headers_from l.statements l.k l.fn.head ≡ log_headers l.statements l.fn.head
