use Rattle.std.proofs.Common.{◌≡◌}
use Rattle.cmd_soak.proofs.Hearing.{Hearing}
use Rattle.cmd_soak.proofs.heard.Heard.hear_outputs.Given as goal

abbrev pub invariant-loop-output : goal.invariant-loop-output
invariant-loop-output l = record {
  counts : Hearing l.initial.self l.self l.output-index l.outputs;
  hasher : l.self.hasher ≡ l.initial.self.hasher;
}
