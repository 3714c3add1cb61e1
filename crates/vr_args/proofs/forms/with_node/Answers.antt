use Rattle.vr_args.proofs.Forming.{put_below}
use Rattle.vr_args.proofs.forms.with_node.Goals as goal

pub returns-clause-form : goal.returns-clause-form
returns-clause-form c =
    put_below c.and_command.result c.running.result c.node.result _ _ c.and_command.ensures.form c.running.ensures.form c.node.ensures.form
