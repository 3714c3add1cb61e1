use Rattle.std.proofs.Common.{◌≡◌, take, drop}
use Rattle.vr_msg.specs.Spelling.{AreHeaders, known}
use Rattle.vr_view.proofs.stating.copy_parts.Given as goal

abbrev pub invariant-loop-part : goal.invariant-loop-part
invariant-loop-part l = record {
  copy : l.copy ≡ take l.part-index l.parts;
  values : AreHeaders (known (drop l.part-index l.parts)) → AreHeaders (known l.parts);
}
