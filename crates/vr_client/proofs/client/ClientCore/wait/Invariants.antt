use Rattle.std.proofs.Common.{◌≡◌}
use Rattle.vr_client.specs.Asking.{Keeps, ask_in}
use Rattle.vr_client.proofs.Waits.{Waiting}
use Rattle.vr_client.proofs.client.ClientCore.wait.Given as goal

abbrev pub invariant-loop-done : goal.invariant-loop-done
invariant-loop-done g l = record {
  core : Keeps l.fn.self l.self;
  faults : g.L.Link.faults l.link ≡ g.L.Link.faults l.fn.link;
  attached : g.L.Link.attached l.link ≡ g.L.Link.attached l.fn.link;
  waiting : Waiting (ask_in l.fn.self l.name l.turns) l.done l.fn.self.port l.self.port (g.L.Link.sent l.fn.link) (g.L.Link.sent l.link)
      (g.L.Link.received l.fn.link) (g.L.Link.received l.link);
}
