use Rattle.std.proofs.Common.{◌≡◌, ◌≤◌, length, take}
use Rattle.vr_text.specs.Text.{letters_of}
use Rattle.vr_text.proofs.parts.known.Given as goal

abbrev pub invariant-loop-count : goal.invariant-loop-count
invariant-loop-count l = record {
  within : l.count ≤ length l.parts;
  same : letters_of (take l.count l.parts) ≡ letters_of l.parts;
}

abbrev pub decreases-loop-count : goal.decreases-loop-count
decreases-loop-count l = l.count
