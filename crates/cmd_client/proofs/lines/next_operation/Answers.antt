use Rattle.std.proofs.Common.{rules, subst}
use Rattle.cmd_client.specs.Run.{Judges, ReadsLine, reading}
use Rattle.cmd_client.specs.Text.{longest}
use Rattle.cmd_client.proofs.Exchanges.{heard, judged_counts}
use Rattle.vr_lines.specs.Coming.{Comes}
use Rattle.cmd_client.proofs.lines.next_operation.Goals as goal

pub returns-in-Ok-Line : goal.returns-in-Ok-Line
returns-in-Ok-Line g c =
    let before = reading c.args.lines.now (g.S.Source.left c.args.source.now) in
    let after = reading c.read.new.self (g.S.Source.left c.read.new.source) in
    let found : ReadsLine c.args.version before after c.read.new.self.line =
    subst (λ f. Comes (longest c.args.version) before.rest before.left c.read.new.self after.left f) c.in-Ok-Line.field-0-is (subst (λ l. Comes l before.rest before.left c.read.new.self after.left c.in-Ok-Line.field-0) c.line_limit.ensures.value c.in-Ok-Line.ensures.found) in
    let judged : Judges c.args.version c.args.number c.read.new.self.line c.judge.result = subst (λ l. Judges c.args.version c.args.number l c.judge.result) c.line.ensures c.judge.ensures in
    record {
      heard = heard c.args.version c.args.number before after c.read.new.self.line c.judge.result found judged;
      counts = judged_counts c.args.version c.args.number c.read.new.self.line _ _ c.judge.result (search rules) judged;
    }
