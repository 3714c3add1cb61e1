use Rattle.std.proofs.Common.{rules}
use Rattle.cmd_client.proofs.Answers.{exchanged, put_links}
use Rattle.cmd_client.specs.Acts.{fault_counts, stands}
use Rattle.cmd_client.specs.Asking.{client_of}
use Rattle.cmd_client.proofs.asking.exchange.Goals as goal

pub returns-in-Ok : goal.returns-in-Ok
returns-in-Ok g c =
    let put = c.put_answer-put.ensures.put in
    let stood = stands g.K.Sink g.L.Link c.args.core.now c.args.link.now c.args.sink.now in
    let stands' = stands g.K.Sink g.L.Link c.ask.new.self c.ask.new.link c.put_answer-put.new.sink in
    let before = fault_counts g.K.Sink g.L.Link c.args.link.now c.args.sink.now in
    let after = fault_counts g.K.Sink g.L.Link c.ask.new.link c.put_answer-put.new.sink in
    record {
      exchanged = exchanged (client_of c.args.core.now c.args.turns) c.args.core.now.number c.args.operation.now stood stands' before after c.in-Ok.answer
          c.put_answer-put.result c.in-Ok.ensures.run put;
      number = c.ask.ensures.number;
      client = search rules;
      link = c.ask.ensures.cause.later;
      links = put_links c.in-Ok.answer _ _ _ _ _ _ c.put_answer-put.result c.in-Ok.ensures.cause.counted put;
      sink = c.put_answer-put.ensures.counts;
      attached = c.ask.ensures.attached;
    }
