use Rattle.std.proofs.Common.{◌≡◌, ◌+◌, drop}
use Rattle.std.specs.List.{prefix_len}
use Rattle.vr_header.specs.Parts.{has_header}
use Rattle.vr_window.proofs.known.known_from.Given as goal

abbrev pub invariant-loop-i : goal.invariant-loop-i
invariant-loop-i l = record {
  at : l.i ≡ l.from + l.count;
  rest : prefix_len has_header (drop l.from l.parts) ≡ l.count + prefix_len has_header (drop (l.from + l.count) l.parts);
}
