use Rattle.vr_lie.proofs.Lies.{lied_same}
use Rattle.vr_mem.specs.Seen.{reads_of}
use Rattle.vr_lie.proofs.trial.seen.Goals as goal

pub returns-clause-same : goal.returns-clause-same
returns-clause-same c = lied_same _ c.args.at (reads_of c.read.result) c.read.ensures.value
