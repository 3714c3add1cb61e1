use Rattle.std.proofs.Common.{length}
use Rattle.vr_disk.proofs.Clearing.{cut_rest}
use Rattle.vr_disk.proofs.buffer.fill_front.Goals as goal

pub clear-requires-clause-rest : goal.clear-requires-clause-rest
clear-requires-clause-rest c = rw (c.saturating_sub.ensures, c.split_at_mut-front.ensures.back) (cut_rest c.args.used (length c.args.bytes.now) c.args.to.now c.requires.size c.requires.rest)
