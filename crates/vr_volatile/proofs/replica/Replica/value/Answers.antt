use Rattle.vr_volatile.proofs.Memory.{value_is}
use Rattle.vr_volatile.proofs.replica.Replica.value.Goals as goal

pub next-requires : goal.next-requires
next-requires c = value_is _ _ _ c.requires.ready c.requires.room c.fields.ensures c.in_ok-headers.ensures
