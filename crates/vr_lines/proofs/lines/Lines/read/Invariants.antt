use Rattle.std.proofs.Common.{◌≡◌}
use Rattle.vr_lines.proofs.Coming.{Midst, turns_left}
use Rattle.vr_lines.proofs.lines.Lines.read.Given as goal

abbrev pub invariant-loop-self : goal.invariant-loop-self
invariant-loop-self g l = record {
  midst : Midst l.initial.self.bytes (g.S.Source.left l.initial.source) l.self.bytes (g.S.Source.left l.source) l.ended;
  faults : g.S.Source.faults l.source ≡ g.S.Source.faults l.initial.source;
}

abbrev pub decreases-loop-self : goal.decreases-loop-self
decreases-loop-self g l = turns_left l.self.bytes l.ended
