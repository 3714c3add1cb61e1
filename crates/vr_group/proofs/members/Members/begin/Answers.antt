use Rattle.vr_group.proofs.Steps.{begins}
use Rattle.vr_group.proofs.members.Members.begin.Goals as goal

pub returns-clause-world : goal.returns-clause-world
returns-clause-world c = begins c.args.kind.now c.args.n c.in_ok-make_hosts.field-0.items c.new.result c.in_ok-make_hosts.ensures c.new.ensures
