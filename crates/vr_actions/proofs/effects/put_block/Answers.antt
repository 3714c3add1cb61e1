use Rattle.vr_actions.proofs.Performing.{put_is}
use Rattle.vr_actions.proofs.effects.put_block.Goals as goal

pub returns-clause-runs : goal.returns-clause-runs
returns-clause-runs g c = put_is _ _ _ _ _ _ c.put_block.ensures.runs
