use Rattle.std.proofs.Common.{◌≡◌, subst}
use Rattle.std.specs.Prelude.{IfOk, IsOkAnd}
use Rattle.clap.specs.Words.{Rule}
use Rattle.vr_args.specs.Forms.{form_of, taking}
use Rattle.vr_args.proofs.forms.and_wanted.Goals as goal

pub returns-clause-form : goal.returns-clause-form
returns-clause-form c =
    subst (λ (rule : Rule). IfOk c.and_arg.result (λ r. IsOkAnd c.args.command (λ b. form_of r ≡ taking (form_of b) rule))) c.wanted.ensures.rule c.and_arg.ensures.form
