use Rattle.vr_args.proofs.Forming.{wanting_same}
use Rattle.vr_args.specs.Forms.{soak}
use Rattle.vr_args.proofs.forms.soak.Goals as goal

pub returns-clause-form : goal.returns-clause-form
unfolding soak
returns-clause-form c = wanting_same c.with_wanted.result _ _ _ c.plain.ensures.form c.with_wanted.ensures.form
