use Rattle.std.proofs.Common.{rules, ◌≡◌, ◌∙◌, ◌∷◌}
use Rattle.vr_serve.proofs.Outputs.{sending_next}
use Rattle.vr_serve.specs.Outputs.{datagrams_for}
use Rattle.vr_serve.proofs.output.send_outputs.Goals as goal

pub loop-output-preserved : goal.loop-output-preserved
loop-output-preserved g c =
    let is : c.loop-output.output-iterator.rest.items ≡ c.in-Some.output ∷ c.next.new.self.rest.items = search rules in
    let kept = c.loop-output.invariant.kept in
    let more = c.send_next.ensures.sends.kept in
    record {
      sending = sending_next c.args.clients.now (datagrams_for c.args.clients.now c.args.outputs) c.loop-output.output-iterator.rest.items c.in-Some.output
          c.next.new.self.rest.items (g.L.Link.sent c.args.link.now) (g.L.Link.sent c.loop-output.link) (g.L.Link.sent c.send_next.new.link)
          is c.loop-output.invariant.sending c.in_ok-last.ensures.sends.sent;
      kept = record { received = more.received ∙ kept.received; faults = more.faults ∙ kept.faults; attached = more.attached ∙ kept.attached };
      last = c.in_ok-last.ensures.last;
    }
