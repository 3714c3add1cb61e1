use Rattle.vr_volatile.proofs.Memory.{stays_ok}
use Rattle.vr_view.proofs.Jumps.{view_jumped}
use Rattle.vr_view.proofs.jumping.jump.Goals as goal

pub returns-clause-view : goal.returns-clause-view
returns-clause-view g c = stays_ok _ _ _ _ c.save.ensures.spends.view (view_jumped _ _ _ c.in_ok-jump.ensures.jumped)
