use Rattle.vr_world.specs.World.{Asks}
use Rattle.vr_embed.proofs.Worlds.{goes_one_ok}
use Rattle.vr_embed.proofs.group.Group.ask.Goals as goal

pub returns-clause-goes : goal.returns-clause-goes
returns-clause-goes c = goes_one_ok (Asks c.args.index c.args.request) c.args.self.now c.handle-handled.new.self c.handle-handled.result c.handle-handled.ensures.happened
