use Rattle.vr_host_disk.proofs.Acting.{acts_go, acts_halt}
use Rattle.vr_host_disk.proofs.laws.members_act.Goals as goal

pub returns : goal.returns
returns c = record { go = acts_go; halt = acts_halt }
