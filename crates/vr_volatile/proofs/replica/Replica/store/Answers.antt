use Rattle.vr_volatile.proofs.Memory.{window_part, in_window}
use Rattle.vr_volatile.proofs.replica.Replica.store.Goals as goal

pub put_part-requires-clause-from : goal.put_part-requires-clause-from
put_part-requires-clause-from c = rw c.header-header.ensures.value (in_window _ _ c.requires.may c.requires.window).0

pub put_part-requires-clause-within : goal.put_part-requires-clause-within
put_part-requires-clause-within c = rw c.header-header.ensures.value (in_window _ _ c.requires.may c.requires.window).1

pub forget-requires : goal.forget-requires
forget-requires c = window_part _ _ _ _ c.put_part.ensures.put c.requires.window
