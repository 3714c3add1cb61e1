use Rattle.std.proofs.Common.{◌≡◌, replicate}
use Rattle.vr_stream.specs.Lines.{fresh_line}
use Rattle.vr_stream.proofs.framer.fresh_lines.Given as goal

abbrev pub invariant-loop : goal.invariant-loop
invariant-loop l = l.lines.items ≡ replicate l.counter fresh_line
