use Rattle.vr_args.proofs.Forming.{taken_twice}
use Rattle.vr_args.specs.Forms.{making}
use Rattle.vr_args.proofs.forms.making.Goals as goal

pub returns-clause-form : goal.returns-clause-form
unfolding making
returns-clause-form c =
    taken_twice c.and_arg.result c.and_arg-command.result c.args.command _ _ _ _ c.flag.ensures.rule c.flag-2.ensures.rule c.and_arg-command.ensures.form c.and_arg.ensures.form
