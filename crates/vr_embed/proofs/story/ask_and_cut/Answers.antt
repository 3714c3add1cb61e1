use Rattle.std.proofs.Common.{[], ◌∷◌}
use Rattle.vr_world.specs.World.{Asks, Fuses}
use Rattle.vr_embed.proofs.Stories.{went_first_ok}
use Rattle.vr_embed.proofs.story.ask_and_cut.Goals as goal

pub returns : goal.returns
returns c = went_first_ok (Fuses 1 2 0 ∷ []) (Asks 0 c.args.request ∷ []) c.args.group.now c.cut_after.new.self c.ask.new.group c.ask.result c.cut_after.ensures.goes c.cut_after.ensures.next c.ask.ensures
