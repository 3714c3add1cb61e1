use Rattle.std.specs.Prelude.{Ok}
use Rattle.vr_serve.specs.Runs.{HaveTurns}
use Rattle.vr_serve.specs.Serving.{Keeps, standing}
use Rattle.vr_serve.proofs.serving.take_turns.Given as goal

abbrev pub invariant-loop : goal.invariant-loop
invariant-loop g l = record {
  kept : Keeps {T = Unit {0}} g.M.Member g.D.SectorDisk g.K.Sink g.L.Link l.fn.objects l.objects (Ok tt);
  turned : HaveTurns g.M.Member.does l.version l.cluster l.counter l.last l.after (standing g.M.Member g.D.SectorDisk g.K.Sink g.L.Link l.fn.objects l.fn.post)
      (standing g.M.Member g.D.SectorDisk g.K.Sink g.L.Link l.objects l.post) (g.C.Clock.left l.fn.clock) (g.C.Clock.left l.clock)
      (g.L.Link.received l.fn.objects.link.now) (g.L.Link.received l.objects.link.now);
}
