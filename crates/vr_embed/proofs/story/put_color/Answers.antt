use Rattle.std.proofs.Common.{ap, ◌∙◌}
use Rattle.vr_header.specs.declared.operation.Operation.TheVariants.{Put}
use Rattle.vr_embed.specs.Story.{asked, color, green}
use Rattle.vr_embed.proofs.Stories.{asked_behind_ok}
use Rattle.vr_embed.proofs.story.put_color.Goals as goal

pub returns : goal.returns
returns c =
    asked_behind_ok c.request.result (asked 1 (Put color green)) c.args.group.now c.ask_and_lose.new.group c.ask_and_lose.result (c.request.ensures ∙ ap (asked 1) c.in_ok-operation.ensures) c.ask_and_lose.ensures
