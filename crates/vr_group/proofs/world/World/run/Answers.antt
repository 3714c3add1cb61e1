use Rattle.std.proofs.Common.{rules}
use Rattle.vr_group.proofs.world.World.run.Goals as goal

pub happen_all-requires-clause-of : goal.happen_all-requires-clause-of
happen_all-requires-clause-of c = (c.args.self.now.version, search rules)
