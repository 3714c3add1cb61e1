use Rattle.std.proofs.Common.{arith, rules, subst}
use Rattle.cmd_client.proofs.Exchanges.{later_first, later_fits}
use Rattle.vr_header.specs.Bodies.{IsOperation}
use Rattle.cmd_client.proofs.lines.take_line.Goals as goal

pub exchange-asked-requires : goal.exchange-asked-requires
exchange-asked-requires g c =
    let h = c.in-Ok.ensures.heard in
    record {
      number = search rules;
      first = later_first c.version.result h.0.0 c.in-Ok.operation c.args.core.now.number h.0.2 (omega (arith, c.requires.first, c.requires.number));
      fits = subst (λ v. IsOperation v c.in-Ok.operation) c.version.ensures (later_fits c.version.result h.0.0 c.in-Ok.operation h.0.2);
    }
