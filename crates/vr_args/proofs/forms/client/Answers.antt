use Rattle.vr_args.proofs.Forming.{taken}
use Rattle.vr_args.specs.Forms.{client}
use Rattle.vr_args.proofs.forms.client.Goals as goal

pub returns-clause-form : goal.returns-clause-form
unfolding client
returns-clause-form c =
    taken c.and_arg.result c.peered-command.result _ _ _ c.flag.ensures.rule c.and_arg.ensures.form c.peered-command.ensures.form
