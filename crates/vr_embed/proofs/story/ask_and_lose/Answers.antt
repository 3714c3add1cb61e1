use Rattle.std.proofs.Common.{[], ◌∷◌}
use Rattle.vr_world.specs.World.{Asks}
use Rattle.vr_embed.proofs.Stories.{went_behind_ok}
use Rattle.vr_embed.proofs.story.ask_and_lose.Goals as goal

pub returns : goal.returns
returns c =
    went_behind_ok (Asks 0 c.args.request ∷ []) c.args.group.now c.ask.new.self c.lose.new.self c.deliver.new.self c.deliver.result c.in_ok-ask.ensures.goes c.in_ok-ask.ensures.next c.lose.ensures.goes c.lose.ensures.least c.lose.ensures.next c.deliver.ensures.goes c.deliver.ensures.least c.deliver.ensures.most c.deliver.ensures.all
