use Rattle.std.proofs.Common.{◌≡◌, ◌≤◌, ◌-◌, drop, take}
use Rattle.std.specs.Prelude.{filter_map}
use Rattle.vr_header.specs.Parts.{header_of}
use Rattle.vr_window.proofs.known.run_of.Given as goal

abbrev pub invariant-loop-i : goal.invariant-loop-i
invariant-loop-i l = record {
  headers : l.headers ≡ filter_map header_of (drop (l.count - l.known) (take l.i l.parts));
  from : l.count - l.known ≤ l.i;
  within : l.i ≤ l.count;
}
