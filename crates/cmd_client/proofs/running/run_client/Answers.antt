use Rattle.std.proofs.Common.{[], ◌∙◌, ap, inl, inr, refl, subst, arith, vec_len}
use Rattle.cmd_client.specs.Asking.{faults}
use Rattle.cmd_client.specs.Run.{client_with, outside}
use Rattle.vr_base.specs.Counts.{links_after}
use Rattle.vr_edge.specs.Attaching.{texts_of}
use Rattle.vr_edge.specs.Failing.{EndsFailed}
use Rattle.cmd_client.proofs.Runs.{client_link, linked, unlinked}
use Rattle.cmd_client.proofs.running.run_client.Goals as goal

pub returns-in-Ok : goal.returns-in-Ok
returns-in-Ok g c =
    let was = c.args.link.now in
    let is = c.attach.new.self in
    let taken = g.K.Sink.taken c.args.sink.now in
    let left = g.S.Source.left c.args.source.now in
    let o = outside (g.L.Link.sent is) (g.L.Link.received is) taken left (g.L.Link.attached is) in
    let o' = outside (g.L.Link.sent c.ask_made.new.link) (g.L.Link.received c.ask_made.new.link) (g.K.Sink.taken c.ask_made.new.sink) (g.S.Source.left c.ask_made.new.source) (g.L.Link.attached c.ask_made.new.link) in
    let b = faults (g.L.Link.faults is) (g.K.Sink.faults c.args.sink.now) in
    let n = faults (g.L.Link.faults c.ask_made.new.link) (g.K.Sink.faults c.ask_made.new.sink) in
    let client = client_with c.args.version c.args.cluster c.args.id (vec_len c.args.peers.now) c.args.turns in
    let went = c.in-Ok.ensures in
    let made = c.ask_made.ensures in
    record {
      ends = linked client (texts_of c.args.peers.now.items) (g.L.Link.sent was) (g.L.Link.sent is) (g.L.Link.received was) (g.L.Link.received is) taken left
          (g.L.Link.attached was) (g.L.Link.attached is) (g.L.Link.faults was) (g.L.Link.faults is) (g.K.Sink.faults c.args.sink.now) o' n c.ask_made.result
          went.sent went.received went.cause.kept went.attached made.counted.attached made.ends;
      read = made.counted.counts;
      write = made.counted.sink;
      links = made.counted.links ∙ ap (links_after c.ask_made.result) went.cause.kept;
      link = λ is. let last = client_link client o o' b n c.ask_made.result made.ends is in record {
        rose = omega (arith, c.attach.ensures.cause.later, last.0);
        last = inr (subst (λ got. EndsFailed got (g.L.Link.received c.ask_made.new.link)) c.attach.ensures.received last.1);
      };
    }

pub returns-in-Err : goal.returns-in-Err
returns-in-Err g c =
    let was = c.args.link.now in
    let is = c.attach.new.self in
    let failed = c.in-Err.ensures in
    record {
      ends = unlinked (client_with c.args.version c.args.cluster c.args.id (vec_len c.args.peers.now) c.args.turns) (texts_of c.args.peers.now.items)
          (g.L.Link.sent was) (g.L.Link.sent is) (g.L.Link.received was) (g.L.Link.received is) (g.K.Sink.taken c.args.sink.now) (g.S.Source.left c.args.source.now)
          (g.L.Link.attached was) (g.L.Link.attached is) (g.L.Link.faults was) (g.L.Link.faults is) (g.K.Sink.faults c.args.sink.now)
          failed.sent failed.received failed.cause.failed failed.attached;
      read = refl;
      write = refl;
      links = failed.cause.failed;
      link = λ is. record { rose = omega (arith, failed.cause.failed); last = inl ([], [], texts_of c.args.peers.now.items, failed.attached) };
    }
