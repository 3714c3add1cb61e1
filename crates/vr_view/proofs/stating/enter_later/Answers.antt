use Rattle.std.proofs.Common.{rules}
use Rattle.vr_view.proofs.States.{cluster_entered, enter_then, size_entered, view_entered}
use Rattle.vr_view.proofs.stating.enter_later.Goals as goal

pub returns-in-Ok-clause-view : goal.returns-in-Ok-clause-view
returns-in-Ok-clause-view g c = view_entered _ _ _ (c.in-Ok.ensures.made c.requires.last)

pub returns-in-Ok-clause-group : goal.returns-in-Ok-clause-group
returns-in-Ok-clause-group g c = cluster_entered _ _ _ (c.in-Ok.ensures.made c.requires.last)

pub returns-in-Ok-clause-size : goal.returns-in-Ok-clause-size
returns-in-Ok-clause-size g c = size_entered _ _ _ (c.in-Ok.ensures.made c.requires.last)

pub returns-in-Ok-clause-acts : goal.returns-in-Ok-clause-acts
returns-in-Ok-clause-acts g c = record { ready = search rules; cause = search rules; step = enter_then c.args.view _ _ _ _ _ _ _ c.requires.later c.in-Ok.ensures.acts.step }

pub returns-in-Err-clause-acts : goal.returns-in-Err-clause-acts
returns-in-Err-clause-acts g c = record { ready = search rules; cause = search rules; step = enter_then c.args.view _ _ _ _ _ _ _ c.requires.later c.in-Err.ensures.acts.step }
