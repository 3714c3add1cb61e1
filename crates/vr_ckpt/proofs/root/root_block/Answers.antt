use Rattle.std.proofs.Common.{refl}
use Rattle.vr_ckpt.proofs.Planning.{placed_is}
use Rattle.vr_ckpt.proofs.root.root_block.Goals as goal

pub returns-clause-placed : goal.returns-clause-placed
returns-clause-placed c =
    placed_is c.in_ok-root.root _ c.in_ok-root.ensures.value c.root_place.ensures.within c.in_ok-root.ensures.size (c.in_ok-root.ensures.whole c.root_place.ensures.within refl)
