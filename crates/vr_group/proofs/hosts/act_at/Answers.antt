use Rattle.std.proofs.Common.{arith}
use Rattle.vr_group.specs.Deeds.{act_of}
use Rattle.vr_group.proofs.Acts.{acted_ok}
use Rattle.vr_group.proofs.hosts.act_at.Goals as goal

pub returns-then-at-len : goal.returns-then-at-len
returns-then-at-len c =
    acted_ok (act_of c.args.deed.now) c.args.hosts.now.items c.args.replica c.index_mut-host.result.now c.act.new.self c.act.new.out c.act.result (omega arith) c.index_mut-host.ensures.value c.act.ensures
