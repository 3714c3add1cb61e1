use Rattle.vr_volatile.proofs.Told.{may_sync}
use Rattle.vr_volatile.proofs.replica.Replica.sync_view.Goals as goal

pub sync_view-requires : goal.sync_view-requires
sync_view-requires c = may_sync _ _ _ _ _ _ _ c.sender-from.ensures c.self.view_is c.requires.ready c.requires.view c.requires.down c.in_ok-headers.ensures c.head-head.ensures.head c.len.ensures c.saturating_sub.ensures
