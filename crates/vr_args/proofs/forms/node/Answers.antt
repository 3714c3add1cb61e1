use Rattle.vr_args.proofs.Forming.{made, taken}
use Rattle.vr_args.specs.Forms.{node}
use Rattle.vr_args.proofs.forms.node.Goals as goal

pub returns-clause-form : goal.returns-clause-form
unfolding node
returns-clause-form c =
    made c.making.result c.and_arg.result _ c.making.ensures.form
    (taken c.and_arg.result c.peered-command.result _ _ _ c.flag.ensures.rule c.and_arg.ensures.form c.peered-command.ensures.form)
