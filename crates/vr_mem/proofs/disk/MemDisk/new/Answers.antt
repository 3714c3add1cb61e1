use Rattle.vr_mem.proofs.Honest.{made_honest}
use Rattle.vr_mem.proofs.disk.MemDisk.new.Goals as goal

pub invariant_of-result : goal.invariant_of-result
invariant_of-result c = record { honest = made_honest _ c.in_ok-new.ensures.face }
