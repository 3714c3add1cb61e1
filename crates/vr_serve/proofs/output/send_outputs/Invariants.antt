use Rattle.std.specs.Prelude.{◌≡◌, IfSome}
use Rattle.vr_msg.specs.Spelling.{spelling}
use Rattle.vr_serve.proofs.Outputs.{Sending}
use Rattle.vr_serve.specs.Outputs.{datagrams_for}
use Rattle.vr_serve.specs.Sending.{OnlySends}
use Rattle.vr_serve.proofs.output.send_outputs.Given as goal

abbrev pub invariant-loop-output : goal.invariant-loop-output
invariant-loop-output g l = record {
  sending : Sending (datagrams_for l.clients l.fn.outputs) (datagrams_for l.clients l.output-iterator.rest.items) (g.L.Link.sent l.fn.link) (g.L.Link.sent l.link);
  kept : OnlySends g.L.Link l.fn.link l.link;
  last : IfSome l.last (λ m. l.bytes.items ≡ spelling m);
}
