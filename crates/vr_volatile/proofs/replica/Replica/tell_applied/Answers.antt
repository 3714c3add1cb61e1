use Rattle.vr_volatile.proofs.replica.Replica.tell_applied.Goals as goal

pub reply_applied-requires-clause-kind : goal.reply_applied-requires-clause-kind
reply_applied-requires-clause-kind c = c.requires.kind c.header-header.ensures.entry
