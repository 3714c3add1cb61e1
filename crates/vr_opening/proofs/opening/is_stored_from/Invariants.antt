use Rattle.std.proofs.Common.{◌≡◌, drop}
use Rattle.std.specs.List.{list_any}
use Rattle.vr_rules.specs.Opening.{was_stored}
use Rattle.vr_opening.proofs.opening.is_stored_from.Given as goal

abbrev pub invariant-loop-i : goal.invariant-loop-i
invariant-loop-i l = list_any was_stored (drop l.at l.replica.parts) ≡ list_any was_stored (drop l.i l.replica.parts)
