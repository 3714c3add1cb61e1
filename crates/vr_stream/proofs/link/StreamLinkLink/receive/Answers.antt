use Rattle.vr_stream.proofs.Told.{received_more, told_more}
use Rattle.vr_stream.specs.Framers.{framing}
use Rattle.vr_stream.proofs.link.StreamLinkLink.receive.Goals as goal

pub invariant_of-self : goal.invariant_of-self
invariant_of-self g c = record {
  told = λ e. told_more (framing c.args.self.now.framed.framer) (framing c.receive.new.self.framer) (g.T.Streams.calls c.args.self.now.framed.streams)
      (g.T.Streams.calls c.receive.new.self.streams) (g.T.Streams.polled c.args.self.now.framed.streams) (g.T.Streams.polled c.receive.new.self.streams) c.receive.new.to.items
      c.receive.result (c.args.self.now.told e) c.receive.ensures.heard;
}

pub returns-clause-received : goal.returns-clause-received
returns-clause-received g c =
    received_more c.args.self.now.is_told (framing c.args.self.now.framed.framer) (framing c.receive.new.self.framer) (g.T.Streams.calls c.args.self.now.framed.streams)
    (g.T.Streams.calls c.receive.new.self.streams) (g.T.Streams.polled c.args.self.now.framed.streams) (g.T.Streams.polled c.receive.new.self.streams) c.receive.new.to.items
    c.receive.result c.args.self.now.told c.receive.ensures.heard
