use Rattle.std.proofs.Common.{Ok}
use Rattle.vr_args.proofs.Forming.{put_below}
use Rattle.vr_args.specs.Forms.{above, replay, running, soak, top}
use Rattle.vr_args.proofs.forms.running.Goals as goal

pub returns-clause-form : goal.returns-clause-form
unfolding running
returns-clause-form c =
    put_below c.and_command.result c.with_command-command.result c.soak.result (above top replay) soak c.and_command.ensures.form
    (put_below c.with_command-command.result (Ok c.top.result) (Ok c.replay.result) top replay c.with_command-command.ensures.form c.top.ensures.form c.replay.ensures.form)
    c.soak.ensures.form
