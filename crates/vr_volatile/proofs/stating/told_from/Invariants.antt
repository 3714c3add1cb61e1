use Rattle.std.proofs.Common.{◌≡◌, ◌≤◌, ◌-◌, take, drop, max}
use Rattle.vr_volatile.proofs.stating.told_from.Given as goal

abbrev pub invariant-loop-i : goal.invariant-loop-i
invariant-loop-i l = record {
  told : l.told ≡ take (l.i - l.from) (drop l.from l.parts);
  within : l.i ≤ max l.from l.end;
}
