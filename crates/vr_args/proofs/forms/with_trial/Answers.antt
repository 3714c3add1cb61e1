use Rattle.vr_args.proofs.Forming.{put_below}
use Rattle.vr_args.proofs.forms.with_trial.Goals as goal

pub returns-clause-form : goal.returns-clause-form
returns-clause-form c =
    put_below c.and_command.result c.with_client.result c.trial.result _ _ c.and_command.ensures.form c.with_client.ensures.form c.trial.ensures.form
