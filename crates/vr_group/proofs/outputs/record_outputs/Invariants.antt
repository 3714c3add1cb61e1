use Rattle.std.proofs.Common.{◌≡◌, ◌++◌, drop, length}
use Rattle.vr_rules.specs.Outputs.{messages}
use Rattle.vr_text.specs.Fronts.{IsFront}
use Rattle.vr_group.specs.Outputs.{numbered, text_of}
use Rattle.vr_group.proofs.outputs.record_outputs.Given as goal

abbrev pub invariant-loop-output : goal.invariant-loop-output
invariant-loop-output l = record {
  sent : l.sent ++ messages (drop l.output-index l.outputs) ≡ l.initial.sent ++ messages l.outputs;
  text : l.to ++ text_of (numbered (length l.sent) (drop l.output-index l.outputs)) ≡ l.initial.to ++ text_of (numbered (length l.initial.sent) l.outputs);
  front : IsFront l.initial.to l.to;
}
