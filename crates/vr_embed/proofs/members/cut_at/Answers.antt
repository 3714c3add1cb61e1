use Rattle.std.proofs.Common.{[], arith, refl}
use Rattle.vr_world.specs.World.{fused}
use Rattle.vr_embed.proofs.Worlds.{acts_past, acts_there}
use Rattle.vr_embed.proofs.members.cut_at.Goals as goal

pub returns-then-at-len : goal.returns-then-at-len
returns-then-at-len c =
    acts_there (fused c.args.calls 0) c.args.members.now.items c.args.index c.index_mut-member.result.now c.cut_after.new.self [] (omega arith) c.index_mut-member.ensures.value c.cut_after.ensures

pub returns-else-at-len : goal.returns-else-at-len
returns-else-at-len c = acts_past (fused c.args.calls 0) c.args.members.now.items c.args.index [] (omega arith) refl
