use Rattle.vr_actions.proofs.Performing.{rewrite_is}
use Rattle.vr_actions.proofs.effects.rewrite_header.Goals as goal

pub returns-clause-runs : goal.returns-clause-runs
returns-clause-runs g c = rewrite_is _ _ _ _ _ c.write_header.ensures.runs
