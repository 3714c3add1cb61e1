use Rattle.std.proofs.Common.{refl}
use Rattle.vr_world.specs.World.{Fuses, fused}
use Rattle.vr_embed.proofs.Worlds.{goes_one, happened_quietly}
use Rattle.vr_embed.proofs.group.Group.cut_after.Goals as goal

pub returns-clause-goes : goal.returns-clause-goes
returns-clause-goes c =
    goes_one (Fuses c.args.index c.args.calls 0) c.args.self.now _ (happened_quietly (fused c.args.calls 0) c.args.index c.args.self.now _ c.cut_at.ensures refl refl)
