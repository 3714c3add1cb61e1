use Rattle.vr_world.specs.Lying.{hazards}
use Rattle.vr_world.specs.World.{Starts, starts}
use Rattle.vr_embed.proofs.Worlds.{goes_one, happened_as}
use Rattle.vr_embed.proofs.group.Group.recover.Goals as goal

pub returns-clause-goes : goal.returns-clause-goes
returns-clause-goes c =
    goes_one (Starts c.args.index) c.args.self.now _
    (happened_as (starts hazards) c.args.index c.args.self.now _ c.recover_at.new.out c.in_ok-recover_at.ensures c.in_ok-put_out.ensures.letters c.in_ok-put_out.ensures.text)
