use Rattle.std.proofs.Common.{refl}
use Rattle.cmd_soak.proofs.Hearing.{hears_message, hears_other}
use Rattle.cmd_soak.proofs.heard.Heard.hear_output.Goals as goal

pub returns-in-Send-clause-counts : goal.returns-in-Send-clause-counts
returns-in-Send-clause-counts c = hears_message c.args.self.now c.args.output.now _ c.in-Send.is

pub returns-clause-counts : goal.returns-clause-counts
returns-clause-counts c =
    let counted = c.in_ok-count.ensures in
    hears_other c.args.self.now c.count.new.self _ c.args.output.now counted.counted counted.requests c.hear.ensures refl refl
