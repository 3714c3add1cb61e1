use Rattle.vr_group.specs.Group.{world_of}
use Rattle.vr_group.proofs.Acts.{happened_as}
use Rattle.vr_group.proofs.members.Members.act.Goals as goal

pub returns-clause-happened : goal.returns-clause-happened
returns-clause-happened c =
    happened_as (world_of c.args.self.now) c.args.replica _ c.act_at.new.hosts.items c.record_outputs.new.sent c.act_at.new.out c.args.to.now c.record_outputs.new.to c.in_ok-act_at.ensures (rw c.as_slice.ensures at c.in_ok-record_outputs.ensures.sent) (rw c.as_slice.ensures at c.in_ok-record_outputs.ensures.text)
