use Rattle.std.proofs.Common.{arith}
use Rattle.vr_rules.proofs.Stepping.{steps}
use Rattle.vr_normal.proofs.counting.count.Goals as goal

pub returns-clause-acts : goal.returns-clause-acts
returns-clause-acts g c = record { ready = c.advance.ensures.acts.ready; cause = c.advance.ensures.acts.cause; step = grind (arith, steps) }
