use Rattle.vr_disk.proofs.Clearing.{used_new}
use Rattle.vr_disk.proofs.buffer.Buffer.new.Goals as goal

pub invariant_of-result : goal.invariant_of-result
invariant_of-result c = used_new c.new-bytes.result.items c.resize.new.self.items c.new-bytes.result.len c.new-bytes.ensures.items c.new-bytes.ensures.len c.in_ok-resize.ensures.items
