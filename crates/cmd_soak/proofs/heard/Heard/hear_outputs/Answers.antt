use Rattle.std.proofs.Common.{◌∙◌, arith}
use Rattle.cmd_soak.proofs.Hearing.{hearing_all, hearing_more}
use Rattle.cmd_soak.proofs.heard.Heard.hear_outputs.Goals as goal

pub loop-output-preserved : goal.loop-output-preserved
loop-output-preserved c =
    let heard = c.in_ok-hear_output.ensures in
    record {
      counts = hearing_more _ c.loop-output.self c.hear_output.new.self c.loop-output.output-index c.args.outputs.now c.output-item.result c.loop-output-test.true c.output-item.is c.loop-output.invariant.counts heard.counts;
      hasher = heard.hasher ∙ c.loop-output.invariant.hasher;
    }

pub returns-clause-counts : goal.returns-clause-counts
returns-clause-counts c = hearing_all c.args.self.now c.loop-output.self c.loop-output.output-index c.args.outputs.now (omega (arith, c.loop-output-test.false)) c.loop-output.invariant.counts
