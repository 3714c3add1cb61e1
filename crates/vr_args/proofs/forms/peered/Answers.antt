use Rattle.vr_args.proofs.Forming.{taken, wanting_same}
use Rattle.vr_args.specs.Forms.{peered}
use Rattle.vr_args.proofs.forms.peered.Goals as goal

pub returns-clause-form : goal.returns-clause-form
unfolding peered
returns-clause-form c =
    taken c.and_arg.result c.with_wanted.result _ _ _ c.addresses.ensures.rule c.and_arg.ensures.form
    (wanting_same c.with_wanted.result _ _ _ c.plain.ensures.form c.with_wanted.ensures.form)
