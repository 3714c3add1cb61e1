use Rattle.vr_volatile.proofs.Told.{may_start}
use Rattle.vr_volatile.proofs.replica.Replica.start_view.Goals as goal

pub start_view-requires : goal.start_view-requires
start_view-requires c = may_start _ _ _ _ _ _ _ c.sender-from.ensures c.self.view_is c.requires.ready c.requires.view c.in_ok-headers.ensures c.head-head.ensures.head c.len.ensures c.saturating_sub.ensures
