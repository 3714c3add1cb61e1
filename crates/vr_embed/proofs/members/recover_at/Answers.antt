use Rattle.std.proofs.Common.{arith}
use Rattle.vr_world.specs.Lying.{hazards}
use Rattle.vr_world.specs.World.{starts}
use Rattle.vr_embed.proofs.Worlds.{acts_ok, acts_past}
use Rattle.vr_embed.proofs.members.recover_at.Goals as goal

pub returns-then-at-len : goal.returns-then-at-len
returns-then-at-len c =
    acts_ok (starts hazards) c.args.members.now.items c.args.index c.index_mut-member.result.now c.recover.new.self c.recover.new.out c.recover.result (omega arith) c.index_mut-member.ensures.value c.recover.ensures

pub returns : goal.returns
returns c = acts_past (starts hazards) c.args.members.now.items c.args.index c.clear.new.self (omega arith) c.clear.ensures
