use Rattle.std.proofs.Common.{Ok, rules, subst}
use Rattle.cmd_client.specs.Asking.{Exchanges, client_of, faults, stand}
use Rattle.cmd_client.specs.Run.{EndsLines, reading}
use Rattle.vr_header.specs.declared.operation.Operation.TheVariants.{Register}
use Rattle.cmd_client.proofs.Runs.{registered}
use Rattle.cmd_client.proofs.running.ask_all.Goals as goal

pub returns-in-Ok : goal.returns-in-Ok
returns-in-Ok g c =
    let who = client_of c.args.core.now c.args.turns in
    let first = faults (g.L.Link.faults c.args.link.now) (g.K.Sink.faults c.args.sink.now) in
    let mid = faults (g.L.Link.faults c.exchange.new.link) (g.K.Sink.faults c.exchange.new.sink) in
    let last = faults (g.L.Link.faults c.ask_lines.new.link) (g.K.Sink.faults c.ask_lines.new.sink) in
    let r = reading c.args.lines.now (g.S.Source.left c.args.source.now) in
    let r' = reading c.ask_lines.new.lines (g.S.Source.left c.ask_lines.new.source) in
    let s = stand c.args.core.now (g.L.Link.sent c.args.link.now) (g.L.Link.received c.args.link.now) (g.K.Sink.taken c.args.sink.now) in
    let s'' = stand c.exchange.new.core (g.L.Link.sent c.exchange.new.link) (g.L.Link.received c.exchange.new.link) (g.K.Sink.taken c.exchange.new.sink) in
    let s' = stand c.ask_lines.new.core (g.L.Link.sent c.ask_lines.new.link) (g.L.Link.received c.ask_lines.new.link) (g.K.Sink.taken c.ask_lines.new.sink) in
    let begun : Exchanges who 0 Register s s'' first mid (Ok tt) = subst (λ n. Exchanges who n Register s s'' first mid (Ok tt)) c.requires c.in-Ok.ensures.exchanged in
    let lines : EndsLines who r s'' r' s' mid last c.ask_lines.result =
    subst (λ x. EndsLines x r s'' r' s' mid last c.ask_lines.result) c.exchange.ensures.client c.ask_lines.ensures.ends in
    record {
      ends = registered who r s s'' r' s' first mid last c.ask_lines.result begun c.in-Ok.ensures.links c.in-Ok.ensures.sink lines;
      counted = search rules;
    }
