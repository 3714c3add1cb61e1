use Rattle.std.proofs.Common.{◌≡◌, ◌+◌}
use Rattle.cmd_client.specs.Asking.{client_of, stand}
use Rattle.cmd_client.specs.Run.{reading}
use Rattle.cmd_client.proofs.Exchanges.{Midst}
use Rattle.cmd_client.proofs.lines.ask_lines.Given as goal

abbrev pub invariant-loop-done : goal.invariant-loop-done
invariant-loop-done g l = record {
  midst : Midst (client_of l.fn.core l.turns) l.done
      (reading l.fn.lines (g.S.Source.left l.fn.source)) (stand l.fn.core (g.L.Link.sent l.fn.link) (g.L.Link.received l.fn.link) (g.K.Sink.taken l.fn.sink))
      (reading l.lines (g.S.Source.left l.source)) (stand l.core (g.L.Link.sent l.link) (g.L.Link.received l.link) (g.K.Sink.taken l.sink));
  client : client_of l.core l.turns ≡ client_of l.fn.core l.turns;
  number : l.core.number ≡ l.done + 1;
  counts : g.S.Source.faults l.source ≡ g.S.Source.faults l.fn.source;
  link : g.L.Link.faults l.link ≡ g.L.Link.faults l.fn.link;
  attached : g.L.Link.attached l.link ≡ g.L.Link.attached l.fn.link;
  sink : g.K.Sink.faults l.sink ≡ g.K.Sink.faults l.fn.sink;
}
