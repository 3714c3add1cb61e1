use Rattle.vr_group.specs.Group.{world_of}
use Rattle.vr_group.proofs.Acts.{begun}
use Rattle.vr_group.proofs.members.Members.happen.Goals as goal

pub returns-in_ok-renew-in-Cluster-clause-happened : goal.returns-in_ok-renew-in-Cluster-clause-happened
returns-in_ok-renew-in-Cluster-clause-happened c =
    rw c.in-Cluster.is (begun (world_of c.args.self.now) (world_of c.renew.new.self) c.in-Cluster.kind c.in-Cluster.n c.renew.new.self.out c.args.to.now c.in_ok-renew-in-Cluster.ensures.world c.in_ok-renew-in-Cluster.ensures.out)
