use Rattle.std.proofs.Common.{arith}
use Rattle.vr_normal.proofs.Counts.{rules}
use Rattle.vr_normal.proofs.counting.handle_prepare_ok.Goals as goal

pub returns-in-Counted-clause-acts : goal.returns-in-Counted-clause-acts
returns-in-Counted-clause-acts g c = record { ready = c.count.ensures.acts.ready; cause = c.count.ensures.acts.cause; step = grind (arith, rules) }
