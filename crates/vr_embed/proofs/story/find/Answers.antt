use Rattle.std.proofs.Common.{[], ◌∷◌}
use Rattle.vr_world.specs.World.{Starts}
use Rattle.vr_embed.proofs.Stories.{went_on_ok}
use Rattle.vr_embed.proofs.story.find.Goals as goal

pub returns : goal.returns
returns c = went_on_ok (Starts 1 ∷ []) c.args.group.now c.recover.new.self c.deliver.new.self c.deliver.result c.in_ok-recover.ensures.goes c.in_ok-recover.ensures.next c.deliver.ensures.goes c.deliver.ensures.least c.deliver.ensures.most c.deliver.ensures.all
