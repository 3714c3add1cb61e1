use Rattle.std.proofs.Common.{◌≡◌, ◌++◌, drop, map}
use Rattle.vr_text.specs.Fronts.{IsFront}
use Rattle.vr_text.specs.Text.{letter}
use Rattle.vr_text.proofs.parts.put_letters.Given as goal

abbrev pub invariant-loop-part : goal.invariant-loop-part
invariant-loop-part l = record {
  text : l.to ++ map letter (drop l.part-index l.parts) ≡ l.initial.to ++ map letter l.parts;
  front : IsFront l.initial.to l.to;
}
