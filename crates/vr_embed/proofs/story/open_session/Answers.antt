use Rattle.vr_header.specs.declared.operation.Operation.TheVariants.{Register}
use Rattle.vr_embed.specs.Story.{asked}
use Rattle.vr_embed.proofs.Stories.{asked_ok}
use Rattle.vr_embed.proofs.story.open_session.Goals as goal

pub returns : goal.returns
returns c = asked_ok c.request.result (asked 0 Register) c.args.group.now c.ask.new.group c.ask.result c.request.ensures c.ask.ensures
