use Rattle.vr_args.proofs.Forming.{put_below}
use Rattle.vr_args.proofs.forms.with_client.Goals as goal

pub returns-clause-form : goal.returns-clause-form
returns-clause-form c =
    put_below c.and_command.result c.with_node.result c.client.result _ _ c.and_command.ensures.form c.with_node.ensures.form c.client.ensures.form
