use Rattle.vr_world.specs.Lying.{hazards}
use Rattle.vr_world.specs.World.{handles}
use Rattle.vr_embed.proofs.Worlds.{happened_as}
use Rattle.vr_embed.proofs.group.Group.handle.Goals as goal

pub returns-clause-happened : goal.returns-clause-happened
returns-clause-happened c =
    happened_as (handles hazards c.args.event.now) c.args.index c.args.self.now _ c.handle_at.new.out c.in_ok-handle_at.ensures c.in_ok-put_out.ensures.letters c.in_ok-put_out.ensures.text
