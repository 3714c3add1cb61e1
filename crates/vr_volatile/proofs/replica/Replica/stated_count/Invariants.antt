use Rattle.std.proofs.Common.{◌≡◌, ◌≤◌, length}
use Rattle.vr_volatile.specs.States.{stated_to}
use Rattle.vr_volatile.proofs.replica.Replica.stated_count.Given as goal

abbrev pub invariant-loop-i : goal.invariant-loop-i
invariant-loop-i l = record {
  count : l.count ≡ length (stated_to l.self l.i);
  within : l.count ≤ l.i;
}
