use Rattle.std.proofs.Common.{◌≡◌, ◌≤◌, length}
use Rattle.vr_window.specs.Runs.{run_of}
use Rattle.vr_window.proofs.known.run_length.Given as goal

abbrev pub invariant-loop-i : goal.invariant-loop-i
invariant-loop-i l = record {
  value : l.known ≡ length (run_of l.i l.parts);
  within : l.known ≤ l.i;
}
