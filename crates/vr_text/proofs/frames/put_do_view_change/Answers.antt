use Rattle.std.proofs.Common.{◌++◌, codes, ◌∙◌, ap, append_assoc}
use Rattle.std.proofs.lemmas.Result.{on_ok_weaker}
use Rattle.vr_text.specs.Text.{do_view_change_text, statement_text, viewed}
use Rattle.vr_text.proofs.frames.put_do_view_change.Goals as goal

pub returns-clause-text : goal.returns-clause-text
unfolding do_view_change_text
returns-clause-text c =
    on_ok_weaker c.put_statement.result
    (λ e. e ∙ (ap (λ t. t ++ statement_text c.args.d.now.statement) c.in_ok-put_view.ensures.text ∙ append_assoc c.args.to.now (viewed (codes "do_view_change") c.args.d.now.view) (statement_text c.args.d.now.statement)))
    c.put_statement.ensures.text
