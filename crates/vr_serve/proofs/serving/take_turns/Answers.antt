use Rattle.std.proofs.Common.{Err, rules, ◌≡◌, ◌∷◌, [], ap}
use Rattle.vr_edge.specs.Datagrams.{Failed}
use Rattle.vr_mail.proofs.Growing.{grows_trans}
use Rattle.vr_serve.proofs.Ending.{same_stop}
use Rattle.vr_serve.proofs.Keeping.{keeps_err, keeps_none, keeps_ok, keeps_then}
use Rattle.vr_serve.proofs.Turning.{turns_cut, turns_more, turns_none}
use Rattle.vr_serve.specs.Events.{arrivals}
use Rattle.vr_serve.specs.Serving.{ending, standing}
use Rattle.vr_serve.specs.declared.stop.Stop.TheVariants.{Link}
use Rattle.vr_serve.proofs.serving.take_turns.Goals as goal

pub loop-init : goal.loop-init
loop-init g c = record {
  kept = keeps_none g.M.Member g.D.SectorDisk g.K.Sink g.L.Link c.args.objects.now tt c.requires;
  turned = turns_none g.M.Member.does c.args.version c.args.cluster c.args.last
      (standing g.M.Member g.D.SectorDisk g.K.Sink g.L.Link c.args.objects.now c.args.post.now) (g.C.Clock.left c.args.clock.now) (g.L.Link.received c.args.objects.now.link.now);
}

pub loop-preserved : goal.loop-preserved
loop-preserved g c =
    let a = standing g.M.Member g.D.SectorDisk g.K.Sink g.L.Link c.args.objects.now c.args.post.now in
    let b = standing g.M.Member g.D.SectorDisk g.K.Sink g.L.Link c.loop.objects c.loop.post in
    let e = standing g.M.Member g.D.SectorDisk g.K.Sink g.L.Link c.turn.new.objects c.turn.new.post in
    let r = c.in_ok-after.ensures in
    let t = r.turned in
    record {
      kept = keeps_ok g.M.Member g.D.SectorDisk g.K.Sink g.L.Link c.args.objects.now c.turn.new.objects _ tt
          (keeps_then g.M.Member g.D.SectorDisk g.K.Sink g.L.Link c.args.objects.now c.loop.objects c.turn.new.objects tt _ c.loop.invariant.kept r.kept);
      turned = turns_more g.M.Member.does c.args.version c.args.cluster c.loop.counter c.args.last c.loop.after c.in_ok-after.after
          (g.C.Clock.left c.args.clock.now) (g.C.Clock.left c.loop.clock) (g.C.Clock.left c.turn.new.clock)
          (g.L.Link.received c.args.objects.now.link.now) (g.L.Link.received c.loop.objects.link.now) (g.L.Link.received c.turn.new.objects.link.now)
          a b e t.0 c.loop.invariant.turned t.1 t.2 t.3 t.4 t.5;
    }

pub returns-in_err-after : goal.returns-in_err-after
returns-in_err-after g c =
    let a = standing g.M.Member g.D.SectorDisk g.K.Sink g.L.Link c.args.objects.now c.args.post.now in
    let b = standing g.M.Member g.D.SectorDisk g.K.Sink g.L.Link c.loop.objects c.loop.post in
    let r = c.in_err-after.ensures in
    let why = c.in_err-after.field-0.0 in
    let is : c.from_residual.result ≡ Err why = search rules in
    let s = c.loop.invariant.turned in
    rw is (record {
      kept = keeps_err g.M.Member g.D.SectorDisk g.K.Sink g.L.Link c.args.objects.now c.turn.new.objects why
          (keeps_then g.M.Member g.D.SectorDisk g.K.Sink g.L.Link c.args.objects.now c.loop.objects c.turn.new.objects tt _ c.loop.invariant.kept r.kept);
      linked = λ link. (
        arrivals s.turns,
        grows_trans (g.L.Link.received c.args.objects.now.link.now) (g.L.Link.received c.loop.objects.link.now) (g.L.Link.received c.turn.new.objects.link.now)
            (arrivals s.turns) (Failed ∷ []) s.received (r.linked (ap (λ f. Err f) (same_stop why Link link))),
      );
      turned = tt;
      cut = turns_cut g.M.Member.does g.M.Member.halts c.args.version c.args.cluster c.loop.counter c.args.count c.args.last c.loop.after
          (g.C.Clock.left c.args.clock.now) (g.C.Clock.left c.loop.clock) (g.C.Clock.left c.turn.new.clock)
          (g.L.Link.received c.args.objects.now.link.now) (g.L.Link.received c.loop.objects.link.now) (g.L.Link.received c.turn.new.objects.link.now)
          a b (ending g.D.SectorDisk g.K.Sink g.L.Link c.turn.new.objects why) s c.loop-test.true r.cut;
    })
