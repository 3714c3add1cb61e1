use Rattle.vr_embed.proofs.Shelves.{zeros_seen}
use Rattle.vr_embed.proofs.sectors.zeros.Goals as goal

pub returns : goal.returns
returns c = zeros_seen _ c.zero.result (c.in_ok-vec.ensures.items_if_clones_equal (λ y e. e)) c.zero.ensures
