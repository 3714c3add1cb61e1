use Rattle.std.proofs.Common.{◌∙◌, sym, [], None, refl, subst}
use Rattle.vr_mail.specs.Letters.{Brings}
use Rattle.vr_serve.proofs.Cutting.{cut_none, failed_begins, received_stops}
use Rattle.vr_serve.proofs.Ending.{causes_none, causes_received, link_failed, same_stop}
use Rattle.vr_serve.proofs.Keeping.{arrives_some}
use Rattle.vr_serve.proofs.Running.{passed_none}
use Rattle.vr_serve.specs.Runs.{End, end_at}
use Rattle.vr_serve.specs.Serving.{standing}
use Rattle.vr_serve.specs.declared.stop.Stop.TheVariants.{Link}
use Rattle.vr_serve.proofs.serving.arrive.Goals as goal

pub returns-in-Err : goal.returns-in-Err
returns-in-Err g c =
    let objects = c.args.objects.now in
    let a = standing g.M.Member g.D.SectorDisk g.K.Sink g.L.Link objects c.args.post.now in
    let r = c.in-Err.ensures.received in
    let end : End = end_at c.received_stop.result a.disk a.taken (g.L.Link.sent c.receive_letter.new.link) in
    record {
      kept = record {
        objects = record { member = refl; disk = refl; sink = refl; link = refl };
        running = tt;
        causes = rw c.received_stop.ensures (causes_received _ _ _ _ c.in-Err.fault c.in-Err.ensures.cause);
        attached = c.receive_letter.ensures.attached;
      };
      linked = λ link. link_failed c.args.version c.args.cluster c.in-Err.fault (g.L.Link.received objects.link.now) (g.L.Link.received c.receive_letter.new.link) r.0 r.1 r.2
          (sym c.received_stop.ensures ∙ same_stop c.received_stop.result Link link);
      passed = tt;
      cut = (
        r.0,
        None,
        r.1,
        failed_begins c.args.version c.args.cluster r.0 c.in-Err.fault r.2,
        cut_none g.M.Member.does g.M.Member.halts a [] end
            (record { why = rw c.received_stop.ensures (received_stops c.in-Err.fault); disk = refl; taken = refl; sent = c.receive_letter.ensures.sent }),
      );
    }

pub returns-in-Ok-None : goal.returns-in-Ok-None
returns-in-Ok-None g c =
    let objects = c.args.objects.now in
    let a = standing g.M.Member g.D.SectorDisk g.K.Sink g.L.Link objects c.args.post.now in
    let r = c.in-Ok-None.ensures.received in
    record {
      kept = record {
        objects = record { member = refl; disk = refl; sink = refl; link = refl };
        running = c.requires;
        causes = rw c.in-Ok-None.ensures.cause.kept (causes_none _ _ _ tt);
        attached = c.receive_letter.ensures.attached;
      };
      linked = λ link. cc;
      passed = (
        r.0,
        None,
        r.1,
        subst (λ x. Brings c.args.version c.args.cluster r.0 x) c.in-Ok-None.field-0-is r.2,
        rw c.receive_letter.ensures.sent (passed_none g.M.Member.does a a.number a.clients refl refl),
      );
      cut = tt;
    }

pub returns-in-Ok-Some : goal.returns-in-Ok-Some
returns-in-Ok-Some g c =
    let r = c.in-Ok-Some.ensures.received in
    arrives_some g.M.Member g.D.SectorDisk g.K.Sink g.L.Link r.0 c.in-Ok-Some.letter c.handle-handled.ensures c.event_of-event.ensures r.1 (subst (λ x. Brings c.args.version c.args.cluster r.0 x) c.in-Ok-Some.field-0-is r.2)
    (rw c.receive_letter.ensures.sent refl)
    (record {
      objects = record { member = refl; disk = refl; sink = refl; link = refl };
      running = c.requires;
      causes = rw c.in-Ok-Some.ensures.cause.kept (causes_none _ _ _ tt);
      attached = c.receive_letter.ensures.attached;
    })
