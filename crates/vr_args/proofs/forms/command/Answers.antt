use Rattle.vr_args.proofs.Forming.{put_below}
use Rattle.vr_args.specs.Forms.{the_command}
use Rattle.vr_args.proofs.forms.command.Goals as goal

pub returns : goal.returns
unfolding the_command
returns c =
    put_below c.and_command.result c.with_trial.result c.migrate.result _ _ c.and_command.ensures.form c.with_trial.ensures.form c.migrate.ensures.form
