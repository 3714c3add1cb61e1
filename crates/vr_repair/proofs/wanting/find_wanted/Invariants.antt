use Rattle.std.proofs.Common.{◌≡◌, drop}
use Rattle.std.specs.Prelude.{find}
use Rattle.vr_rules.specs.Deciding.{is_wanted}
use Rattle.vr_repair.specs.Repairs.{is_block}
use Rattle.vr_repair.proofs.wanting.find_wanted.Given as goal

abbrev pub invariant-loop-i : goal.invariant-loop-i
invariant-loop-i l = find (is_wanted is_block l.give) l.names ≡ find (is_wanted is_block l.give) (drop l.i l.names)
