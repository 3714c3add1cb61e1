use Rattle.std.proofs.Common.{◌≡◌, ◌+◌, ◌++◌, length}
use Rattle.vr_rules.specs.Outputs.{messages}
use Rattle.vr_group.specs.Outputs.{puts_of}
use Rattle.vr_group.proofs.outputs.put_out.Given as goal

abbrev pub invariant-loop-output : goal.invariant-loop-output
invariant-loop-output l = record {
  room : l.number + length (messages l.output-iterator.rest.items) ≡ l.end;
  puts : l.puts ++ puts_of l.number l.output-iterator.rest.items ≡ l.initial.puts ++ puts_of l.fn.number l.fn.outputs;
}
