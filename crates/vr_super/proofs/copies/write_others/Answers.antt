use Rattle.vr_super.proofs.Fronts.{zeros_others}
use Rattle.vr_super.proofs.copies.write_others.Goals as goal

pub write_synced-requires-clause-zeros : goal.write_synced-requires-clause-zeros
write_synced-requires-clause-zeros g c = zeros_others c.args.filled c.args.text.now c.split_at.result.1.now c.requires.text.least c.requires.text.most c.split_at.ensures.back c.requires.text.zeros

pub returns-clause-runs : goal.returns-clause-runs
returns-clause-runs g c = rw c.split_at.ensures.back at c.write_synced.ensures.runs
