use Rattle.vr_volatile.proofs.Told.{may_state}
use Rattle.vr_volatile.proofs.replica.Replica.tell_statement.Goals as goal

pub do_view_change-message-requires : goal.do_view_change-message-requires
do_view_change-message-requires c = may_state _ _ _ c.sender-from.ensures c.requires.ready c.requires.view c.requires.changing c.in_ok-statement.ensures
