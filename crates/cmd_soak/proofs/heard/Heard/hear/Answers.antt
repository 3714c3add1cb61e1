use Rattle.std.proofs.Common.{refl}
use Rattle.cmd_soak.proofs.Hearing.{heard_all}
use Rattle.cmd_soak.proofs.heard.Heard.hear.Goals as goal

pub returns : goal.returns
returns c =
    let heard = c.in_ok-hear_outputs.ensures in
    heard_all c.args.self.now c.hear_outputs.new.self _ c.args.outputs.now c.args.text.now heard.counts heard.hasher refl refl refl c.update.ensures
