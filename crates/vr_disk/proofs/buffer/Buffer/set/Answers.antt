use Rattle.std.proofs.Common.{rules}
use Rattle.vr_disk.proofs.Clearing.{used_all}
use Rattle.vr_disk.proofs.buffer.Buffer.set.Goals as goal

pub invariant_of-self : goal.invariant_of-self
invariant_of-self c = used_all c.copy_from_slice.new.self.items (search rules)
