use Rattle.std.proofs.Common.{◌≡◌, drop}
use Rattle.vr_lines.specs.Numbers.{digits_on}
use Rattle.vr_lines.proofs.number.read_digits.Given as goal

abbrev pub invariant-loop-b : goal.invariant-loop-b
invariant-loop-b l = digits_on l.n (drop l.b-index l.digits) ≡ digits_on 0 l.digits
