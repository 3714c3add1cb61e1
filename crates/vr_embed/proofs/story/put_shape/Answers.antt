use Rattle.std.proofs.Common.{ap, ◌∙◌}
use Rattle.vr_header.specs.declared.operation.Operation.TheVariants.{Put}
use Rattle.vr_embed.specs.Story.{asked, round, shape}
use Rattle.vr_embed.proofs.Stories.{asked_cut_ok}
use Rattle.vr_embed.proofs.story.put_shape.Goals as goal

pub returns : goal.returns
returns c =
    asked_cut_ok c.request.result (asked 2 (Put shape round)) c.args.group.now c.ask_and_cut.new.group c.ask_and_cut.result (c.request.ensures ∙ ap (asked 2) c.in_ok-operation.ensures) c.ask_and_cut.ensures
