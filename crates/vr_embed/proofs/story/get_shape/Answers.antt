use Rattle.std.proofs.Common.{ℕ, List, ap, ◌∙◌}
use Rattle.vr_header.specs.declared.operation.Operation.TheVariants.{Get}
use Rattle.vr_embed.specs.Story.{asked, shape}
use Rattle.vr_embed.proofs.Stories.{asked_ok}
use Rattle.vr_embed.proofs.story.get_shape.Goals as goal

pub returns : goal.returns
returns c =
    asked_ok c.request.result (asked 3 (Get shape)) c.args.group.now c.ask.new.group c.ask.result (c.request.ensures ∙ ap (λ (k : List ℕ). asked 3 (Get k)) c.in_ok-key.ensures) c.ask.ensures
