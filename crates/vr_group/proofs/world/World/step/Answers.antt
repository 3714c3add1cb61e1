use Rattle.std.proofs.Common.{rules}
use Rattle.vr_group.proofs.world.World.step.Goals as goal

pub happen-requires : goal.happen-requires
happen-requires c = (c.args.self.now.version, search rules)
