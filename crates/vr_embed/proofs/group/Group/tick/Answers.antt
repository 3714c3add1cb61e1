use Rattle.std.proofs.Common.{◌∙◌, refl}
use Rattle.vr_embed.proofs.Worlds.{goes_nowhere, goes_ticks}
use Rattle.vr_embed.proofs.group.Group.tick.Goals as goal

pub loop-index-preserved : goal.loop-index-preserved
loop-index-preserved c = record {
  goes = goes_ticks c.loop-index.index c.args.self.now c.loop-index.self c.handle.new.self c.loop-index.invariant.goes c.in_ok-handle.ensures.happened;
  next = c.in_ok-handle.ensures.next ∙ c.loop-index.invariant.next;
}

pub loop-index-init : goal.loop-index-init
loop-index-init c = record { goes = goes_nowhere c.args.self.now; next = refl }
