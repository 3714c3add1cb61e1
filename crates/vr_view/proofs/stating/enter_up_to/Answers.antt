use Rattle.std.proofs.Common.{arith, rules}
use Rattle.vr_view.proofs.States.{enter_none}
use Rattle.vr_view.proofs.stating.enter_up_to.Goals as goal

pub returns-else-view-clause-acts : goal.returns-else-view-clause-acts
returns-else-view-clause-acts g c = record { ready = search rules; cause = search rules; step = enter_none c.args.view _ _ _ (omega arith) }
