use Rattle.std.proofs.Common.{arith}
use Rattle.vr_world.specs.Lying.{hazards}
use Rattle.vr_world.specs.World.{handles}
use Rattle.vr_embed.proofs.Worlds.{acts_ok, acts_past}
use Rattle.vr_embed.proofs.members.handle_at.Goals as goal

pub returns-then-at-len : goal.returns-then-at-len
returns-then-at-len c =
    acts_ok (handles hazards c.args.event.now) c.args.members.now.items c.args.index c.index_mut-member.result.now c.handle.new.self c.handle.new.out c.handle.result (omega arith) c.index_mut-member.ensures.value c.handle.ensures

pub returns : goal.returns
returns c = acts_past (handles hazards c.args.event.now) c.args.members.now.items c.args.index c.clear.new.self (omega arith) c.clear.ensures
