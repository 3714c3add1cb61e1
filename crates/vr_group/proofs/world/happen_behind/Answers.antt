use Rattle.vr_group.specs.Group.{world_of}
use Rattle.vr_group.proofs.Goings.{sent_more}
use Rattle.vr_group.proofs.world.happen_behind.Goals as goal

pub put_out-requires : goal.put_out-requires
put_out-requires c =
    rw (c.len-number.ensures, c.replace-out.ensures.value, c.len.ensures)
    (sent_more c.requires.of.0 (world_of c.args.members.now) (world_of c.happen.new.self) c.args.line.now _ _ _ c.requires.group c.requires.of.1 c.in_ok-happen.ensures.happened)
