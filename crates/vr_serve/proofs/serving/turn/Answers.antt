use Rattle.std.proofs.Common.{Err, rules, ◌≡◌, refl}
use Rattle.vr_serve.proofs.Cutting.{cut_behind, if_err_then}
use Rattle.vr_serve.proofs.Keeping.{keeps_err, keeps_then, stop_linked}
use Rattle.vr_serve.proofs.Running.{passed_trans}
use Rattle.vr_serve.proofs.Turning.{both}
use Rattle.vr_serve.specs.Events.{AtReceive, AtTick, comes_of, due, turn_of}
use Rattle.vr_serve.specs.Runs.{IsTurnCut}
use Rattle.vr_serve.specs.Serving.{ending, standing}
use Rattle.vr_serve.proofs.serving.turn.Goals as goal

pub returns-in_err-arrive : goal.returns-in_err-arrive
returns-in_err-arrive g c =
    let r = c.in_err-arrive.ensures in
    let why = c.in_err-arrive.field-0.0 in
    let is : c.from_residual.result ≡ Err why = search rules in
    rw is (record {
      kept = keeps_err g.M.Member g.D.SectorDisk g.K.Sink g.L.Link c.args.objects.now c.arrive.new.objects why r.kept;
      linked = stop_linked why _ r.linked;
      turned = tt;
      cut = record { last = AtReceive r.cut.0 r.cut.1; clock = refl; received = r.cut.2; begun = r.cut.3; cut = r.cut.4 };
    })

pub returns : goal.returns
returns g c =
    let a = standing g.M.Member g.D.SectorDisk g.K.Sink g.L.Link c.args.objects.now c.args.post.now in
    let b = standing g.M.Member g.D.SectorDisk g.K.Sink g.L.Link c.arrive.new.objects c.arrive.new.post in
    let e = standing g.M.Member g.D.SectorDisk g.K.Sink g.L.Link c.beat.new.objects c.beat.new.post in
    let r = c.in_ok-arrive.ensures in
    let came = r.passed in
    let then = c.beat.ensures.handles in
    record {
      kept = keeps_then g.M.Member g.D.SectorDisk g.K.Sink g.L.Link c.args.objects.now c.arrive.new.objects c.beat.new.objects tt c.beat.result r.kept then.kept;
      linked = λ link. absurd (then.unlinked link);
      turned = both c.beat.result _ _ _ (λ after is passed. (
        turn_of came.0 came.1 c.now-now.result,
        is,
        rw then.received came.2,
        came.3,
        c.now-now.ensures,
        passed_trans g.M.Member.does a b e (comes_of came.1) (due c.args.last c.now-now.result) came.4 passed,
      )) c.beat.ensures.last then.passed;
      cut = if_err_then c.beat.result _
          (λ why. IsTurnCut g.M.Member.does g.M.Member.halts c.args.version c.args.cluster c.args.last a (g.C.Clock.left c.args.clock.now) (g.C.Clock.left c.now-now.new.self)
          (g.L.Link.received c.args.objects.now.link.now) (g.L.Link.received c.beat.new.objects.link.now) (ending g.D.SectorDisk g.K.Sink g.L.Link c.beat.new.objects why))
          (λ why cut. record {
            last = AtTick (turn_of came.0 came.1 c.now-now.result);
            clock = (g.C.Clock.left c.now-now.new.self, c.now-now.ensures, refl);
            received = rw then.received came.2;
            begun = came.3;
            cut = cut_behind g.M.Member.does g.M.Member.halts a b (comes_of came.1) (due c.args.last c.now-now.result) (ending g.D.SectorDisk g.K.Sink g.L.Link c.beat.new.objects why) came.4 cut;
          }) then.cut;
    }
