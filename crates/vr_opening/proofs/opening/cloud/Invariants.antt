use Rattle.std.proofs.Common.{◌≡◌}
use Rattle.vr_opening.specs.Finding.{cloud_to}
use Rattle.vr_opening.proofs.opening.cloud.Given as goal

abbrev pub invariant-loop-i : goal.invariant-loop-i
invariant-loop-i l = l.replica ≡ cloud_to l.i l.initial.replica
