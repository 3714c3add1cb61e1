use Rattle.std.proofs.Common.{◌≡◌, ◌++◌, take}
use Rattle.vr_serve.specs.Outputs.{numbers_after, text_from}
use Rattle.vr_serve.proofs.output.put_text.Given as goal

abbrev pub invariant-loop-output : goal.invariant-loop-output
invariant-loop-output l = record {
  text : l.text ≡ l.initial.text ++ text_from l.initial.number (take l.output-index l.outputs);
  number : l.number ≡ numbers_after l.initial.number (take l.output-index l.outputs);
}
