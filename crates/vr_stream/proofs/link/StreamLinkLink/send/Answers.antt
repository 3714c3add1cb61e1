use Rattle.vr_stream.proofs.Told.{received_sent, told_sent}
use Rattle.vr_stream.specs.Framers.{framing}
use Rattle.vr_stream.proofs.link.StreamLinkLink.send.Goals as goal

pub invariant_of-self : goal.invariant_of-self
invariant_of-self g c = record {
  told = told_sent c.args.self.now.is_told (framing c.args.self.now.framed.framer) (framing c.send.new.self.framer) (g.T.Streams.calls c.args.self.now.framed.streams)
      (g.T.Streams.calls c.send.new.self.streams) (g.T.Streams.polled c.args.self.now.framed.streams) (g.T.Streams.polled c.send.new.self.streams)
      (g.T.Streams.written c.args.self.now.framed.streams) (g.T.Streams.written c.send.new.self.streams) c.args.to c.args.bytes.now c.args.self.now.told c.send.ensures.sends
      c.send.ensures.polled;
}

pub returns-clause-received : goal.returns-clause-received
returns-clause-received g c =
    received_sent c.args.self.now.is_told (framing c.args.self.now.framed.framer) (framing c.send.new.self.framer) (g.T.Streams.calls c.args.self.now.framed.streams)
    (g.T.Streams.calls c.send.new.self.streams) (g.T.Streams.polled c.args.self.now.framed.streams) (g.T.Streams.polled c.send.new.self.streams)
    (g.T.Streams.written c.args.self.now.framed.streams) (g.T.Streams.written c.send.new.self.streams) c.args.to c.args.bytes.now c.args.self.now.told c.send.ensures.sends
    c.send.ensures.polled
