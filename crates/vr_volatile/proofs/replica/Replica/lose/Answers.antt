use Rattle.vr_volatile.proofs.Memory.{here_within}
use Rattle.vr_volatile.proofs.replica.Replica.lose.Goals as goal

pub put_part-requires-clause-from : goal.put_part-requires-clause-from
put_part-requires-clause-from c = (here_within _ _ c.requires.ready c.requires.here).0

pub put_part-requires-clause-within : goal.put_part-requires-clause-within
put_part-requires-clause-within c = (here_within _ _ c.requires.ready c.requires.here).1
