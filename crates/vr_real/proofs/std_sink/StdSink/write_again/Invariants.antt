use Rattle.std.proofs.Common.{◌≡◌}
use Rattle.std.specs.Io.KnownBytes.{Keeps}
use Rattle.vr_real.proofs.std_sink.StdSink.write_again.Given as goal

abbrev pub invariant-loop : goal.invariant-loop
invariant-loop g l = record {
  kept : Keeps (g.W.Write.contents l.initial.self.inner) (g.W.Write.contents l.self.inner);
  faults : l.self.faults ≡ l.initial.self.faults;
}
