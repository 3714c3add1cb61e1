use Rattle.std.proofs.Common.{◌+◌, ◌≡◌, ◌∙◌, Err, ap, refl, rules, sym, subst, arith, inl}
use Rattle.cmd_client.specs.Asking.{client_of, faults, stand}
use Rattle.cmd_client.specs.Run.{EndsLines, Hears, IsExchanged, StopsAt, Takes, reading}
use Rattle.cmd_client.proofs.Exchanges.{ends_at, heard_links, heard_writes, midst_more, one_too_many, stops_later}
use Rattle.cmd_client.proofs.lines.ask_lines.Goals.{in-Err-next_operation, in-Ok}
use Rattle.cmd_client.proofs.lines.ask_lines.Goals as goal

pub loop-done-preserved : goal.loop-done-preserved
loop-done-preserved g c =
    let i = c.loop-done.invariant in
    let e = c.in_default.ensures in
    let before = reading c.loop-done.lines (g.S.Source.left c.loop-done.source) in
    let after = reading c.take_line.new.lines (g.S.Source.left c.take_line.new.source) in
    let stood = stand c.loop-done.core (g.L.Link.sent c.loop-done.link) (g.L.Link.received c.loop-done.link) (g.K.Sink.taken c.loop-done.sink) in
    let stands = stand c.take_line.new.core (g.L.Link.sent c.take_line.new.link) (g.L.Link.received c.take_line.new.link) (g.K.Sink.taken c.take_line.new.sink) in
    let one : IsExchanged (client_of c.args.core.now c.args.turns) (c.loop-done.done + 1) before stood e.taken.0.0 after stands =
    subst (λ x. IsExchanged x (c.loop-done.done + 1) before stood e.taken.0.0 after stands) i.client e.taken.0.1 in
    record {
      midst = midst_more (client_of c.args.core.now c.args.turns) c.loop-done.done (c.loop-done.done + 1) _ _ before stood e.taken.0.0 after stands refl i.midst one;
      client = e.client ∙ i.client;
      number = e.number;
      counts = e.counts ∙ i.counts;
      link = e.links ∙ i.link;
      attached = c.take_line.ensures.attached ∙ i.attached;
      sink = e.sink ∙ i.sink;
    }

pub returns-in-Err : goal.returns-in-Err
returns-in-Err g c =
    let i = c.loop-done.invariant in
    let client = client_of c.args.core.now c.args.turns in
    let number = c.loop-done.done + 1 in
    let before = reading c.loop-done.lines (g.S.Source.left c.loop-done.source) in
    let after = reading c.take_line.new.lines (g.S.Source.left c.take_line.new.source) in
    let began = stand c.args.core.now (g.L.Link.sent c.args.link.now) (g.L.Link.received c.args.link.now) (g.K.Sink.taken c.args.sink.now) in
    let stood = stand c.loop-done.core (g.L.Link.sent c.loop-done.link) (g.L.Link.received c.loop-done.link) (g.K.Sink.taken c.loop-done.sink) in
    let stands = stand c.take_line.new.core (g.L.Link.sent c.take_line.new.link) (g.L.Link.received c.take_line.new.link) (g.K.Sink.taken c.take_line.new.sink) in
    let b = faults (g.L.Link.faults c.args.link.now) (g.K.Sink.faults c.args.sink.now) in
    let m = faults (g.L.Link.faults c.loop-done.link) (g.K.Sink.faults c.loop-done.sink) in
    let n = faults (g.L.Link.faults c.take_line.new.link) (g.K.Sink.faults c.take_line.new.sink) in
    let status = c.in-Err.status in
    let taken : Takes client number before stood after stands m n (Err status) =
    subst (λ x. Takes x number before stood after stands m n (Err status)) i.client c.in-Err.ensures.taken in
    record {
      ends = ends_at client c.loop-done.done number (reading c.args.lines.now (g.S.Source.left c.args.source.now)) began before stood after stands b n status refl
          (omega (arith, c.loop-done-test.true)) i.midst (stops_later client number before stood after stands b m n status i.link i.sink taken);
      counted = search rules;
    }

pub returns : goal.returns
returns g c =
    let i = c.loop-done.invariant in
    let client = client_of c.args.core.now c.args.turns in
    let first = reading c.args.lines.now (g.S.Source.left c.args.source.now) in
    let before = reading c.loop-done.lines (g.S.Source.left c.loop-done.source) in
    let after = reading c.next_operation.new.lines (g.S.Source.left c.next_operation.new.source) in
    let began = stand c.args.core.now (g.L.Link.sent c.args.link.now) (g.L.Link.received c.args.link.now) (g.K.Sink.taken c.args.sink.now) in
    let stood = stand c.loop-done.core (g.L.Link.sent c.loop-done.link) (g.L.Link.received c.loop-done.link) (g.K.Sink.taken c.loop-done.sink) in
    let b = faults (g.L.Link.faults c.args.link.now) (g.K.Sink.faults c.args.sink.now) in
    let n = faults (g.L.Link.faults c.loop-done.link) (g.K.Sink.faults c.loop-done.sink) in
    let version : c.version.result ≡ client.version = c.version.ensures ∙ ap (λ k. k.version) i.client in
    let heard : Hears client.version 1000001 before after c.next_operation.result =
    subst (λ v. Hears v 1000001 before after c.next_operation.result) version c.next_operation.ensures.heard in
    let at : 1000001 ≡ c.loop-done.done + 1 = omega (arith, c.loop-done-test.false, c.loop-done.auto.done-end) in
    record {
      ends = elim c.match-next_operation.branch [
        | in-Ok w ↦ absurd (one_too_many client.version before after w.in-Ok.field-0 (subst (λ x. Hears client.version 1000001 before after x) w.in-Ok.is heard))
        | in-Err-next_operation w ↦
            let status = w.in-Err-next_operation.status in
            let stops : StopsAt client.version 1000001 before after status = subst (λ x. Hears client.version 1000001 before after x) w.in-Err-next_operation.is heard in
            subst (λ x. EndsLines client first began after stood b n x) (sym w.result-is)
            (ends_at client c.loop-done.done 1000001 first began before stood after stood b n status at (omega (arith, at)) i.midst (inl (refl, stops)))
      ];
      counted = search (rules, heard_writes, heard_links);
    }
