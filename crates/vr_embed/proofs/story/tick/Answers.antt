use Rattle.vr_embed.specs.Groups.{ticks}
use Rattle.vr_embed.proofs.Stories.{went_on_ok}
use Rattle.vr_embed.proofs.story.tick.Goals as goal

pub returns : goal.returns
returns c = went_on_ok ticks c.args.group.now c.tick.new.self c.deliver.new.self c.deliver.result c.in_ok-tick.ensures.goes c.in_ok-tick.ensures.next c.deliver.ensures.goes c.deliver.ensures.least c.deliver.ensures.most c.deliver.ensures.all
