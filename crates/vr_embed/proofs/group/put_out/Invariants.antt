use Rattle.std.proofs.Common.{◌≡◌, ◌++◌}
use Rattle.vr_rules.specs.Outputs.{messages}
use Rattle.vr_embed.specs.Groups.{told_lines}
use Rattle.vr_embed.proofs.group.put_out.Given as goal

abbrev pub invariant-loop-output : goal.invariant-loop-output
invariant-loop-output l = record {
  letters : l.link.letters ++ messages l.output-iterator.rest.items ≡ l.initial.link.letters ++ messages l.fn.out;
  next : l.link.next ≡ l.initial.link.next;
  text : l.text ++ told_lines l.output-iterator.rest.items ≡ l.initial.text ++ told_lines l.fn.out;
}
